-- Texts of ASCII characters.
use Rattle.std.specs.Prelude.{ℕ, Bool, List, nat_lt}
use Rattle.std.specs.List.{list_all}

-- the bytes are all ASCII characters
abbrev pub are_ascii : List ℕ → Bool
are_ascii bs = list_all (λ b. nat_lt b 128) bs
