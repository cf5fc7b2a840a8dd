-- Heads, one byte on. (For the loops of `head`.)
use Rattle.std.proofs.Common.{◌≡◌, ℕ, ◌+◌, ◌<◌, ◌≤◌, ◌&&◌, true, false, List, length, drop, nat_eq, slice_index, refl, Some}
use Rattle.std.specs.Char.{to_ascii_lowercase}
use Rattle.std.specs.List.{starts_with}
use Rattle.std.proofs.lemmas.List.{drop_all, drop_more}
use Rattle.rpc_frames.specs.Frames.{behind_name, empty_line, field_name, has_name, head_end}

-- where no empty line begins, one ends where it does behind the first byte
pub head_end-drop : (at : ℕ) (bytes : List ℕ) → at < length bytes
    → starts_with nat_eq (drop at bytes) empty_line ≡ false
    → head_end at (drop at bytes) ≡ head_end (at + 1) (drop (at + 1) bytes)
head_end-drop at bytes within none =
    let here = rw (drop_more bytes at 0 within) at none in
    rw (drop_more bytes at 0 within, here) refl

-- a line has a name if its first byte and the rest do
pub has_name-drop : (name line : List ℕ) (i : ℕ) → i < length name → i < length line
    → has_name (drop i name) (drop i line) ≡ (nat_eq (slice_index name i)
    (to_ascii_lowercase (slice_index line i)) && has_name (drop (i + 1) name) (drop (i + 1) line))
has_name-drop name line i in_name in_line =
    rw (drop_more name i 0 in_name, drop_more line i 0 in_line) refl

-- a line that ends within the name does not have it
pub has_name-short : (name line : List ℕ) (i : ℕ) → i < length name → length line ≤ i
    → has_name (drop i name) (drop i line) ≡ false
has_name-short name line i in_name past =
    rw (drop_more name i 0 in_name, drop_all i line past) refl

-- where a line begins and has the name, the rest of it comes behind the name
pub behind_name-found : (head : List ℕ) (at : ℕ) → at < length head
    → has_name field_name (drop at head) ≡ true
    → behind_name true (drop at head) ≡ Some (drop (length field_name) (drop at head))
behind_name-found head at within named =
    let here = rw (drop_more head at 0 within) at named in
    rw (drop_more head at 0 within, here) refl
