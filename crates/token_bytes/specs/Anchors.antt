-- What replaces an anchor.
use Rattle.std.specs.Prelude.{◌≡◌, ℕ, nat_eq}
use Rattle.std.specs.HashMap.{HashMap, get}
use Rattle.std.specs.Option.{unwrap_or}
use Rattle.token_bytes.specs.declared.renaming.Renaming.{Renaming}

-- what a table has for an anchor: the anchor itself if it has no entry
abbrev pub answer_in : {S : Type 0} → HashMap ℕ ℕ S → ℕ → ℕ
answer_in answers a = unwrap_or (get nat_eq answers a) a

-- the stored replacement is that of the table
abbrev pub IsAtHand : Renaming → Type 0
IsAtHand r = r.answer ≡ answer_in r.answers r.common

-- what replaces an anchor
abbrev pub answer_of : Renaming → ℕ → ℕ
answer_of r = answer_in r.answers
