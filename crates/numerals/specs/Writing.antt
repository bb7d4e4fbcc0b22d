-- Bytes written into a buffer.
use Rattle.std.specs.Prelude.{◌≡◌, List, ◌++◌, ℕ, ◌+◌, length, take, drop}

-- the buffer with these bytes from the place on, where it has room for them
unfoldable pub splice : List ℕ → ℕ → List ℕ → List ℕ
splice out at bytes = take at out ++ bytes ++ drop (at + length bytes) out

-- bytes were written at a place of a buffer, and the cursor `end` is after them
pub record Spliced (before : List ℕ) (at : ℕ) (bytes : List ℕ) (end : ℕ) (after : List ℕ) : Type 0 where
  pub cursor : end ≡ at + length bytes
  pub buffer : after ≡ splice before at bytes
