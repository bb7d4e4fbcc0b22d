-- A reply of writing is returned as that of its checks, where these refuse. Assumes nothing.
use mathlib.Core.Path.{◌≡◌, refl, ap}
use mathlib.Core.Logic.{◌↔◌}
use Rattle.std.specs.Prelude.{Ok, Err}
use Prim.Native.Nat.{ℕ}
use Rattle.rules.specs.declared.refusal.Refusal.{Refusal}
use Rattle.rules.specs.Refusal.{Returned, refused_as}
use Rattle.rules.proofs.Refusals.{refusal-number}
use Rattle.tables.specs.Replies.{Reply, reply_returned, reply_number}
use Rattle.writing.specs.Writing.{text_or, writing_returned, writing_number}

-- by the same number
pub text-number : (c : Reply) (m : ℕ) → writing_number (text_or c m) ≡ reply_number c
text-number (Ok done) m = refl
text-number (Err f) m = refl

-- success is not returned as a refusal
success_apart : {r : Returned} (f : Refusal) → r.number ≡ 0 → r ≡ refused_as f → ⊥
success_apart f z e = refusal-number f (rw (ap (λ (x : Returned). x.number) e) at z)

-- and the same refusals
pub text-returned : (c : Reply) (m : ℕ) (f : Refusal) → (writing_returned (text_or c m) ≡ refused_as f) ↔ (reply_returned c ≡ refused_as f)
text-returned (Ok done) m f = (λ e. absurd (success_apart f refl e), λ e. absurd (success_apart f refl e))
text-returned (Err g) m f = (λ e. e, λ e. e)
