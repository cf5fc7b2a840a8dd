-- The characters at the front of a text that pass a test, passed one by one.
use Rattle.std.proofs.Common.{◌≡◌, ℕ, Bool, true, false, List, [], ◌∷◌, drop, one-add, add-zero}
use Rattle.std.specs.List.{prefix_len}
use Rattle.std.proofs.lemmas.List.{get_or-drop}
use Rattle.rustc_lexer.specs.Character.{char_at}

pub skip_more : (p : ℕ → Bool) (cs ds : List ℕ) (c : ℕ) → cs ≡ c ∷ ds → p c ≡ true → drop (prefix_len p cs) cs ≡ drop (prefix_len p ds) ds
skip_more p cs ds c e h = rw (e, h, one-add)

pub skip_stops : (p : ℕ → Bool) (cs ds : List ℕ) (c : ℕ) → cs ≡ c ∷ ds → p c ≡ false → drop (prefix_len p cs) cs ≡ cs
skip_stops p cs ds c e h = rw (e, h)

pub skip_ends : (p : ℕ → Bool) (cs : List ℕ) → cs ≡ [] → drop (prefix_len p cs) cs ≡ cs
skip_ends p cs e = rw e

-- the first character of what follows n characters stands at n
pub first_of_drop : (cs ds : List ℕ) (n : ℕ) → ds ≡ drop n cs → char_at ds 0 ≡ char_at cs n
first_of_drop cs ds n e = rw (e, get_or-drop n cs 0 0, add-zero)
