-- Lines as values, one on. (For `line_values`.)
use Rattle.std.proofs.Common.{◌≡◌, ◌∙◌, ℕ, List, [], ◌∷◌, ◌++◌, ap, sym, subst, append_assoc, append-nil}
use Rattle.serde_json.specs.Data.{Data}
use Rattle.session_workspace.specs.Steps.{AreValuesOf, HasNoFeed, line_data}

-- the lines of a text are these values and those of a rest
abbrev pub GoesOn : (text rest : List ℕ) → List Data → Type 0
GoesOn text rest values =
    (more : List Data) → AreValuesOf rest more → AreValuesOf text (values ++ more)

-- and one line of the rest is another value
pub one_line : (text rest line behind : List ℕ) (values now : List Data) (d : Data)
    → rest ≡ line ++ 10 ∷ behind → HasNoFeed line → d ≡ line_data line
    → now ≡ values ++ d ∷ [] → GoesOn text rest values → GoesOn text behind now
one_line text rest line behind values now d parts none is added so_far more behind_are =
    let all : AreValuesOf text (values ++ d ∷ more) =
    so_far (d ∷ more) (line, behind, parts, none, is, behind_are) in
    subst (λ (ds : List Data). AreValuesOf text ds)
    (sym (ap (λ (ds : List Data). ds ++ more) added ∙ append_assoc values (d ∷ []) more)) all

-- at first all are of the rest
pub no_line : (text : List ℕ) → GoesOn text text []
no_line text more are = are

-- and at last none is
pub last_line : (text rest : List ℕ) (values : List Data) → HasNoFeed rest
    → GoesOn text rest values → AreValuesOf text values
last_line text rest values none so_far =
    subst (λ (ds : List Data). AreValuesOf text ds) (append-nil values) (so_far [] none)
