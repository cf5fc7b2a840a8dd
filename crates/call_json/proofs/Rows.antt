-- Places, worked out.
use Rattle.std.proofs.Common.{◌≡◌, [], ◌∷◌, refl}
use Rattle.std.specs.Prelude.{codes}
use Rattle.serde_json.specs.Data.{member, no_members, object}
use Rattle.call_json.specs.Places.{numbers, place}

-- a character of four bytes counts two columns
a_place : place (97 ∷ 10 ∷ 240 ∷ 159 ∷ 152 ∷ 128 ∷ 98 ∷ []) (record { start = 6; «end» = 7 })
    ≡ object (member (codes "bytes") (numbers (6 ∷ 7 ∷ []))
    (member (codes "end") (numbers (1 ∷ 3 ∷ []))
    (member (codes "start") (numbers (1 ∷ 2 ∷ [])) no_members)))
a_place = refl
