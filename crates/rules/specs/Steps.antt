-- The rule's methods: constructor, opposite, halved, and the sum with another rule.
use Rattle.std.specs.Prelude.{Bool, true, false, cond, ◌&&◌, ℕ, zero, suc, eqb, ltb, ℤ, pos, negsuc, ◌+ℤ◌}
use Rattle.integers.specs.Bound.{half, odd, opposite_bound, in_word, saturated}
use Rattle.rules.specs.declared.rule.Rule.{Rule}
use Rattle.rules.specs.declared.rule.Rule.TheVariants.{One, Two, Nothing}
use Rattle.rules.specs.declared.rule.Partner.{Partner}
use Rattle.rules.specs.declared.rule.Partner.TheVariants.{With, Alone, Absent}
use Rattle.rules.specs.Limits.{no_rule}
use Rattle.rules.specs.Literal.{negated, literal_of}
use Rattle.rules.specs.Meaning.{bound_of}

-- the rule that says nothing, `0 ≤ the no-rule word`: what stands where there is no rule to hand back
abbrev pub trivial_rule : Rule
trivial_rule = Nothing no_rule

-- 0 names no quantity
abbrev pub is_none : ℤ → Bool
is_none (pos zero) = true
is_none (pos (suc k)) = false
is_none (negsuc k) = false

-- the rule as written, from signed quantity numbers and a bound; 0 stands for no quantity
unfoldable pub rule_of : ℤ → ℤ → ℤ → Rule
rule_of p q c =
    cond (is_none p)
    (cond (is_none q) (Nothing c) (One (literal_of q) c))
    (cond (is_none q) (One (literal_of p) c) (Two (literal_of p) (literal_of q) c))

-- the opposite of `t ≤ c` is `-t ≤ -c - 1`
unfoldable pub opposite_of : Rule → Rule
opposite_of (One x c) = One (negated x) (opposite_bound c)
opposite_of (Two x y c) = Two (negated x) (negated y) (opposite_bound c)
opposite_of (Nothing c) = Nothing (opposite_bound c)

-- a doubled term, +q+q or -q-q, becomes +q or -q with its bound halved; any other rule stays
unfoldable pub halved_of : Rule → Rule
halved_of (One x c) = One x c
halved_of (Two x y c) = cond (eqb x y) (One x (half c)) (Two x y c)
halved_of (Nothing c) = Nothing c

-- does halving it lose a half (document 02, [6])? A doubled term with an odd bound does
unfoldable pub loses_half : Rule → Bool
loses_half (One x c) = false
loses_half (Two x y c) = eqb x y && odd c
loses_half (Nothing c) = false

-- the rule with its lower quantity first, as it stands in a table and as the writer spells it
unfoldable pub in_order : Rule → Rule
in_order (One x c) = One x c
in_order (Two x y c) = cond (ltb x y) (Two x y c) (Two y x c)
in_order (Nothing c) = Nothing c

-- what is left of a rule's term when the literal z is taken from it: another literal, nothing, or z is not there
unfoldable pub partner_of : ℕ → Rule → Partner
partner_of z (One x c) = cond (eqb x z) Alone Absent
partner_of z (Two x y c) = cond (eqb x z) (With y) (cond (eqb y z) (With x) Absent)
partner_of z (Nothing c) = Absent

-- the rule of what two terms leave and the sum s of their bounds, over unbounded integers. Document 01, 'Hiding': the sum is halved where its
-- two remaining terms are alike, or is a bare 0 ≤ s where nothing remains or the rest cancels. It is the trivial rule where
-- one of the terms has not the literal to take
unfoldable pub rest_rule : Partner → Partner → ℤ → Rule
rest_rule (With x) (With y) s = cond (eqb y (negated x)) (Nothing s) (in_order (halved_of (Two x y s)))
rest_rule (With x) Alone s = One x s
rest_rule (With x) Absent s = trivial_rule
rest_rule Alone (With y) s = One y s
rest_rule Alone Alone s = Nothing s
rest_rule Alone Absent s = trivial_rule
rest_rule Absent q s = trivial_rule

-- the rule with a bound that is a word. A bare rule takes the word nearest to its bound, which has the bound's sign and so keeps the meaning.
-- Any other rule stays where its bound is a word, and is the trivial rule where it is none
unfoldable pub fitted : Rule → Rule
fitted (One x c) = cond (in_word c) (One x c) trivial_rule
fitted (Two x y c) = cond (in_word c) (Two x y c) trivial_rule
fitted (Nothing c) = Nothing (saturated c)

-- the sum of two rules over a literal z of the first whose negation stands in the second (document 01: a rule with +q is added to a rule
-- with -q, and q drops out), fitted to words
unfoldable pub sum_over : ℕ → Rule → Rule → Rule
sum_over z r s = fitted (rest_rule (partner_of z r) (partner_of (negated z) s) (bound_of r +ℤ bound_of s))
