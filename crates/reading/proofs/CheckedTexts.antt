-- What a checked text's answer tells by spellings, and so what checking promises. Assumes nothing.
use mathlib.Core.Path.{◌≡◌, sym, ◌∙◌}
use mathlib.Core.List.{List, []}
use Rattle.std.specs.Prelude.{Ok}
use Prim.Native.Nat.{ℕ}
use Rattle.rules.specs.declared.paper.Paper.{Paper}
use Rattle.lines.specs.Lines.{accepted, refused}
use Rattle.reading.specs.declared.check.Passed.{Passed}
use Rattle.reading.specs.Meaning.{Passes}
use Rattle.reading.specs.Reading.{Checked, check_text, checked_of}
use Rattle.reading.specs.Promises.{TextChecked}
use Rattle.reading.proofs.Means.{text_means, reads_check}
use Rattle.reading.proofs.Answered.{failed_judged, passed_judged}
use Rattle.reading.proofs.Numbers.{returned_failed, returned_passed}

module _ (paper : Paper) (s : List ℕ) (r : Checked) (e : r ≡ checked_of (check_text paper s)) where
  -- it is fine where it passed
  pub checked_passes : (p : Passed) → r ≡ Ok p → Passes paper s p.quantities p.hidden p.rules p.body
  checked_passes p q =
      let w = (passed_judged (check_text paper s) p).0 (sym e ∙ q) in
      record {
        contents = w.contents;
        reads = ((text_means paper s (accepted w.contents w.rest)).0 w.is).0;
        counts = w.counts;
        hides = w.hides;
        rules = w.rules;
        begins = w.begins;
      }

  passes_checked : (p : Passed) → Passes paper s p.quantities p.hidden p.rules p.body → r ≡ Ok p
  passes_checked p w = e ∙ (passed_judged (check_text paper s) p).1 (record {
    contents = w.contents;
    rest = [];
    is = reads_check paper s w.contents w.reads;
    counts = w.counts;
    hides = w.hides;
    rules = w.rules;
    begins = w.begins;
  })

  -- all that checking a text promises
  pub check_promised : TextChecked paper s r
  check_promised = record {
    reply = e;
    refused = λ f. let w = returned_failed r f in let v = failed_judged (check_text paper s) f in let m = text_means paper s (refused f) in
        (λ q. m.0 (v.0 (sym e ∙ w.0 q)), λ h. w.1 (e ∙ v.1 (m.1 h)));
    passed = λ n set m body.
        let p : Passed = record { quantities = n; hidden = set; rules = m; body = body } in
        let w = returned_passed r p in
        (λ q. checked_passes p (w.0 q), λ h. w.1 (passes_checked p h));
  }
