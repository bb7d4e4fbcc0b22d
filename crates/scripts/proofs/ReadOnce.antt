-- Two texts that are each checked while a table is filled: what each answer tells, and that both tables are filled where the texts passed and fit. Assumes nothing.
use Rattle.std.specs.Prelude.{Ok, Err}
use mathlib.Core.Path.{◌≡◌, refl, sym, ◌∙◌}
use mathlib.Core.List.{List}
use Prim.Native.Nat.{ℕ}
use lib.IntN.{ℤ}
use lib.ListN.{length, take}
use Rattle.places.specs.Numbering.{block_start}
use Rattle.rules.specs.declared.paper.Paper.TheVariants.{Sheet, Script}
use Rattle.rules.specs.declared.refusal.Refusal.{Refusal}
use Rattle.tables.specs.Replies.{Reply}
use Rattle.reading.specs.declared.check.Passed.{Passed}
use Rattle.reading.specs.Reading.{Checked, check_text, checked_of}
use Rattle.scripts.specs.declared.pair.Pair.{Pair}
use Rattle.scripts.specs.declared.reply.Subject.TheVariants.{Both}
use Rattle.scripts.specs.declared.reply.Subject.TheVariants.{Sheet as OfSheet}
use Rattle.scripts.specs.declared.reply.Subject.TheVariants.{Script as OfScript}
use Rattle.scripts.specs.Replies.{TextMarking, refused_for}
use Rattle.scripts.specs.Meaning.{own_lengths}
use Rattle.scripts.specs.Marking.{count_in}
use Rattle.reading.specs.Promises.{TextFilled}
use Rattle.scripts.specs.Inner.{first_checks, passed_or, checked_pair, PassedPair, TablesFilled, FilledMarked, TablesRoom}
use Rattle.scripts.specs.Promises.{MarkedInOwnRoom}
use Rattle.scripts.proofs.Rooms.{first_tells}
use Rattle.scripts.proofs.Promised.{PairTells, pair_told, FilledPair, filled_tables, filled_marked}
use Rattle.scripts.proofs.OwnRoom.{own_passed, own_marked, own_refused}

module _ {sheet script : List ℕ} {a a' : List ℤ} {r : Checked} (s : TextFilled Sheet sheet a r a') where
  -- the sheet's text is refused
  pub sheet_refused : {v : List ℤ} {f : Refusal} → r ≡ Err f → MarkedInOwnRoom sheet script v (refused_for OfSheet f) v
  unfolding checked_pair
  sheet_refused {v} {f} e =
      own_refused (pair_told sheet script (own_lengths (length v)) {x = refused_for OfSheet f} refl (rw (sym s.checked.reply ∙ e)))

  module _ {p : Passed} (e : r ≡ Ok p) {b b' : List ℤ} {q : Checked} (t : TextFilled Script script b q b') where
    -- it passed
    sheet_passed : checked_of (check_text Sheet sheet) ≡ Ok p
    sheet_passed = sym s.checked.reply ∙ e

    -- and the script's is refused
    pub script_refused : {v : List ℤ} {f : Refusal} → q ≡ Err f → MarkedInOwnRoom sheet script v (refused_for OfScript f) v
    unfolding checked_pair
    script_refused {v} {f} d =
        own_refused (pair_told sheet script (own_lengths (length v)) {x = refused_for OfScript f} refl (rw (sheet_passed, sym t.checked.reply ∙ d)))

    module _ {i : Passed} (d : q ≡ Ok i) (v : List ℤ) {x : Reply}
        (h : x ≡ first_checks p.quantities p.hidden i.quantities i.hidden (own_lengths (length v))) where
      -- both passed
      abbrev pair_of : Pair
      pair_of = record { sheet = p; script = i }

      pair_tells : PairTells sheet script (own_lengths (length v)) (passed_or x pair_of)
      unfolding checked_pair
      pair_tells =
          pair_told sheet script (own_lengths (length v)) {x = passed_or x pair_of} refl (rw (sheet_passed, sym t.checked.reply ∙ d, h))

      -- and do not fit
      pub pair_refused : {f : Refusal} → x ≡ Err f → MarkedInOwnRoom sheet script v (refused_for Both f) v
      pair_refused g = own_refused (rw g at pair_tells)

      -- and do
      module _ (g : x ≡ Ok tt) (w : List ℤ) (room : TablesRoom (count_in sheet) (length a) (length b) (length w)) where
        pair_passed : PassedPair sheet script (own_lengths (length v)) pair_of
        pair_passed = rw g at pair_tells

        both_filled : FilledPair sheet script a b w v pair_of a' b'
        both_filled =
            let k = own_passed a b w v pair_passed room in
            let same = (first_tells p.quantities (own_lengths (length v)) p.hidden i.quantities i.hidden (sym h ∙ g)).1 in
            record {
              passed = k;
              sheet-filled = s.filled p e k.room.sheet_room;
              script-filled = t.filled i d (rw same at k.room.script_room);
            }

        -- so both tables are filled
        pub once_filled : TablesFilled p.quantities p.hidden (take (block_start p.quantities) a') (take (block_start p.quantities) b') (length w) (length v)
        once_filled = filled_tables both_filled

        -- and how they are marked is how the texts are
        pub once_marked : {y : TextMarking} {w' v' : List ℤ}
            → FilledMarked p.quantities p.hidden (take (block_start p.quantities) a') (take (block_start p.quantities) b') w v y w' v'
            → MarkedInOwnRoom sheet script v y v'
        once_marked k = own_marked a b w v pair_passed room (filled_marked both_filled k)
