-- The tightest table of a table that some integers satisfy: each word is the least bound of its term. Every quantity is paired with all others and nothing is
-- cleared, then each term of two literals gets the sum of the two bounds alone. In the field's terms this is the tight closure of integer octagons: A. Miné,
-- 'The octagon abstract domain', 2006; R. Bagnara, P. M. Hill, E. Zaffanella, 'An improved tight closure algorithm for integer octagonal constraints', 2008.
use Rattle.std.specs.Prelude.{Bool, false, cond, ◌||◌, List, ℕ, zero, suc, ℤ}
use Rattle.words.specs.Change.{change}
use Rattle.places.specs.Numbering.{block_start, is_one, higher_at, lower_at}
use Rattle.elimination.specs.Hiding.{with_sum, lone_word, every, paired, contradicts}
use Rattle.keys.specs.Keys.{key_of}

-- the first m quantities of n paired with all others, in increasing number
unfoldable pub pair_up_to : ℕ → ℕ → List ℤ → List ℤ
pair_up_to n zero t = t
pair_up_to n (suc j) t = paired every n j (pair_up_to n j t)

-- pairing them meets a contradiction
unfoldable pub clash_up_to : ℕ → ℕ → List ℤ → Bool
clash_up_to n zero t = false
clash_up_to n (suc j) t = clash_up_to n j t || contradicts every n j (pair_up_to n j t)

-- as a change: at the term of two literals the sum of their bounds alone, by minimum
unfoldable pub strengthening : List ℤ → ℕ → ℤ → ℤ
strengthening t k w = cond (is_one k) w (with_sum (lone_word t (lower_at k)) (lone_word t (higher_at k)) w)

unfoldable pub strengthened : ℕ → List ℤ → List ℤ
strengthened n t = change (block_start n) (strengthening t) t

-- the tightest table
unfoldable pub tightened : ℕ → List ℤ → List ℤ
tightened n t = strengthened n (pair_up_to n n t)

-- the tightest key: the tightest table of the plain key
unfoldable pub tight_key_of : (ℕ → Bool) → ℕ → List ℤ → List ℤ
tight_key_of hidden n t = tightened n (key_of hidden n t)
