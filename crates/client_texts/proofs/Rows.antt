-- Worked rows: texts after changes.
use Rattle.std.proofs.Common.{◌≡◌, codes, [], ◌∷◌, refl}
use Rattle.client_texts.specs.Params.{part, whole}
use Rattle.client_texts.specs.Texts.{after_changes}

-- a change is of the text after the one before
pub one_after_the_other :
    after_changes (part (0, 0) (0, 1) (codes "xy") ∷ part (0, 1) (0, 2) [] ∷ []) (codes "abc")
    ≡ codes "xbc"
one_after_the_other = refl

pub behind_the_end :
    after_changes (part (0, 3) (9, 9) (codes "d") ∷ []) (codes "abc") ≡ codes "abcd"
behind_the_end = refl

-- a begin behind the end is taken as the end
pub turned_round : after_changes (part (0, 2) (0, 1) (codes "-") ∷ []) (codes "abc") ≡ codes "a-bc"
turned_round = refl

pub another_text :
    after_changes (part (0, 0) (0, 1) [] ∷ whole (codes "new") ∷ []) (codes "abc") ≡ codes "new"
another_text = refl
