-- Symbols, one piece on. (For `symbols_in`.)
use Rattle.std.proofs.Common.{◌≡◌, ◌∙◌, ℕ, List, [], ◌∷◌, ◌++◌, refl, sym, ap, append_assoc, Some, None}
use Rattle.expander_model.specs.Definitions.{Definition, definition_of}
use Rattle.expander_model.specs.Pieces.{cut}
use Rattle.serde_json.specs.Data.{Data}
use Rattle.tt_data.specs.Forest.{Forest}
use Rattle.session_workspace.specs.Symbols.{symbol, symbols_among}

first_symbol : (text : List ℕ) (p : Forest) (ps : List Forest) (d : Definition)
    → definition_of p ≡ Some d → symbols_among text (p ∷ ps) ≡ symbol text d ∷ symbols_among text ps
first_symbol text p ps d is = rw is refl

first_plain : (text : List ℕ) (p : Forest) (ps : List Forest) → definition_of p ≡ None
    → symbols_among text (p ∷ ps) ≡ symbols_among text ps
first_plain text p ps is = rw is refl

-- the next piece is a definition
pub one_symbol : (text : List ℕ) (before whole : List Data) (v : Data) (old new p : Forest)
    (d : Definition) → cut old ≡ p ∷ cut new → definition_of p ≡ Some d → v ≡ symbol text d
    → before ++ symbols_among text (cut old) ≡ whole
    → (before ++ v ∷ []) ++ symbols_among text (cut new) ≡ whole
one_symbol text before whole v old new p d cuts is made so_far =
    append_assoc before (v ∷ []) (symbols_among text (cut new))
    ∙ ap (λ (w : Data). before ++ (w ∷ symbols_among text (cut new))) made
    ∙ ap (λ (ds : List Data). before ++ ds) (sym (first_symbol text p (cut new) d is))
    ∙ ap (λ (ps : List Forest). before ++ symbols_among text ps) (sym cuts)
    ∙ so_far

-- the next piece is plain
pub no_symbol : (text : List ℕ) (before whole : List Data) (old new p : Forest)
    → cut old ≡ p ∷ cut new → definition_of p ≡ None
    → before ++ symbols_among text (cut old) ≡ whole
    → before ++ symbols_among text (cut new) ≡ whole
no_symbol text before whole old new p cuts is so_far =
    ap (λ (ds : List Data). before ++ ds) (sym (first_plain text p (cut new) is))
    ∙ ap (λ (ps : List Forest). before ++ symbols_among text ps) (sym cuts)
    ∙ so_far
