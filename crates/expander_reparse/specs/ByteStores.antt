-- How the bytes of a text are stored.
use Rattle.std.specs.Prelude.{◌≡◌, ℕ, ◌+◌, ◌≤◌, IfSome, List, drop, length, take}
use Rattle.std.specs.Rc.{rc_value}
use Rattle.expander_reparse.specs.declared.shared_bytes.ByteStore.{ByteStore}

-- a copy of the text is stored, if any is
abbrev pub HoldsText : ByteStore → List ℕ → Type 0
HoldsText words text = IfSome words.all (λ q. (rc_value q).items ≡ text)

-- these bytes are at this offset of the copy, if there is one
abbrev pub HasWord : ByteStore → ℕ → List ℕ → Type 0
HasWord words at bytes = IfSome words.all
    (λ q. (take (length bytes) (drop at (rc_value q).items) ≡ bytes)
    × (at + length bytes ≤ length (rc_value q).items))
