-- Numbers, worked out.
use Rattle.std.proofs.Common.{◌≡◌, [], ◌∷◌, refl}
use Rattle.reply_json.specs.Lines.{ends_of, origin_numbers}

two_ranges : ends_of (record { start = 0; «end» = 1 } ∷ record { start = 2; «end» = 5 } ∷ [])
    ≡ 0 ∷ 1 ∷ 2 ∷ 5 ∷ []
two_ranges = refl

-- the second token comes from another text
two_origins : origin_numbers (0 ∷ 3 ∷ []) (record { start = 7; «end» = 8 } ∷ record { start = 1; «end» = 2 } ∷ [])
    ≡ 0 ∷ 7 ∷ 8 ∷ 3 ∷ 1 ∷ 2 ∷ []
two_origins = refl
