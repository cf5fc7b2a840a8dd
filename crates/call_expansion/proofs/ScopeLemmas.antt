-- Definitions without ids enter a scope.
use Rattle.std.proofs.Common.{◌≡◌, ◌∙◌, List, [], ◌∷◌, ◌++◌, refl, ap, map, subst, sym}
use Rattle.std.specs.Prelude.{Option, Some, None, unwrap_or}
use Rattle.bridge.specs.RelativeSpans.{own_place}
use Rattle.tt_data.specs.Forest.{Forest}
use Rattle.expander_model.specs.Definitions.{Definition, definition_of}
use Rattle.expander_model.specs.Held.{Met}
use Rattle.expander_model.specs.Meaning.{definitions_after, with_definition}
use Rattle.expander_model.specs.declared.dialect.Dialect.{Dialect}
use Rattle.expander_model.proofs.DefinitionPlaceLemmas.{definition_piece}
use Rattle.expander_scope.specs.MacroDefs.{definition_in}
use Rattle.expander_scope.specs.Outcomes.{numbered_of_known}
use Rattle.expander_scope.specs.ScopeTable.{HasMet}
use Rattle.expander_scope.specs.declared.macro_def.MacroDef.{MacroDef}
use Rattle.expander_scope.specs.declared.scope.Scope as table
use Rattle.expander_scope.proofs.HeldLemmas.{some_is}
use Rattle.call_expansion.specs.InScope.{HasInScope, met_alone}

unwrapped : (o : Option Definition) (d other : Definition) → o ≡ Some d → unwrap_or o other ≡ d
unwrapped None d other e = cc
unwrapped (Some x) d other e = some_is x d e

pub definition_is : (f : Forest) (d : Definition) → definition_of f ≡ Some d → definition_in f ≡ d
definition_is f d e = unwrapped (definition_of f) d _ e

-- the piece of a definition is the tree that it is read from
pub piece_in : (f : Forest) → (definition_in f).piece ≡ f
piece_in f = go (definition_of f) refl
  where
    go : (o : Option Definition) → definition_of f ≡ o → (definition_in f).piece ≡ f
    go None e = rw e refl
    go (Some d) e = ap (λ (x : Definition). x.piece) (definition_is f d e) ∙ definition_piece f d e

-- one more definition
pub entered : (dialect : Dialect) (s : table.Scope) (k : MacroDef) (before : List Definition) → k.number ≡ 0
    → HasMet dialect s (record { place = own_place 0; numbered = numbered_of_known k } ∷ map met_alone before)
    → HasInScope dialect s ((numbered_of_known k).definition ∷ before)
entered dialect s k before e h =
    let alone : record { place = own_place 0; numbered = numbered_of_known k } ≡ met_alone (numbered_of_known k).definition =
    λ i. record { place = own_place 0; numbered = record { number = e i; definition = definition_in k.tree.inner } } in
    subst (λ (m : Met). HasMet dialect s (m ∷ map met_alone before)) alone h

-- it is the one that a piece is
pub defined : (dialect : Dialect) (s : table.Scope) (k : MacroDef) (piece : Forest) (d : Definition) (before : List Definition) → k.tree.inner ≡ piece → definition_of piece ≡ Some d
    → HasInScope dialect s ((numbered_of_known k).definition ∷ before) → HasInScope dialect s (with_definition (definition_of piece) before)
defined dialect s k piece d before tree is h =
    let definition : (numbered_of_known k).definition ≡ d = ap definition_in tree ∙ definition_is piece d is in
    subst (λ (o : Option Definition). HasInScope dialect s (with_definition o before)) (sym is)
    (subst (λ (x : Definition). HasInScope dialect s (x ∷ before)) definition h)

-- the definitions behind one more piece
pub after_more : (before : List Definition) (ps : List Forest) (p : Forest)
    → definitions_after before (ps ++ p ∷ []) ≡ with_definition (definition_of p) (definitions_after before ps)
after_more before [] p = refl
after_more before (q ∷ ps) p = after_more (with_definition (definition_of q) before) ps p
