-- What a session is: the abstract value of `Session`.
use Rattle.std.specs.Prelude.{ℕ, List, [], Option, refl}
use Rattle.std.specs.Coded.{Coded, code_by, coded×, coded_ℕ, coded_list, coded_option}
use Rattle.tt_data.specs.Coded.{forest_code}
use Rattle.tt_data.specs.Forest.{Forest}
use Rattle.tt_data.specs.contracts.edition.Edition as edition_row
use Rattle.tt_data.specs.declared.edition.Edition.{Edition}
use Rattle.mbe.specs.Grammar.{Grammar}
use Rattle.expander_session.specs.Count.{Looked}
use Rattle.expander_session.specs.Layered.{layers}
use Rattle.expander_model.specs.Definitions.{Definition}
use Rattle.expander_model.specs.contracts.dialect.Dialect as dialect_row
use Rattle.expander_model.specs.declared.dialect.Dialect.{Dialect}
use Rattle.expander_model.specs.Meaning.{Layers, definitions_after}

-- a text, the grammar, the edition and the dialect in which it is expanded, the number of levels
-- of calls, the definitions that it is expanded after, and what is cached of the last text that was
-- read
pub record State (G : Type 0) : Type 0 where
  pub text : List ℕ
  pub grammar : G
  pub edition : Edition
  pub dialect : Dialect
  pub depth : ℕ
  -- pieces of other texts, each a definition, in order: a later one of the same name is nearer
  pub prelude : List Forest
  -- the plain pieces of the last text that was read, with their look-ups: none before the first
  -- text that was read
  pub held : Option (List Looked)
  -- the definitions that it was expanded after, and then its own, with piece-relative spans
  pub trees : List Forest
  -- how many ids were given to definitions so far
  pub given : ℕ

-- a piece that the count sees is stored as its parts
abbrev pub looked_code : Coded Looked
looked_code =
    code_by (Forest × List (List ℕ × Option Forest))
    (coded× forest_code (coded_list (coded× (coded_list coded_ℕ) (coded_option forest_code))))
    (λ l. (l.tree, l.finds)) (λ p. record { tree = p.0; finds = p.1 }) (λ _. refl)

-- a session is stored as its parts
abbrev pub state_code : {G : Type 0} → Coded G → Coded (State G)
state_code {G} grammar =
    code_by ((List ℕ × (G × (Edition × Dialect)))
    × (ℕ × (List Forest × (Option (List Looked) × (List Forest × ℕ)))))
    (coded× (coded× (coded_list coded_ℕ)
    (coded× grammar (coded× edition_row.the_row.coded dialect_row.the_row.coded)))
    (coded× coded_ℕ (coded× (coded_list forest_code)
    (coded× (coded_option (coded_list looked_code)) (coded× (coded_list forest_code) coded_ℕ)))))
    (λ s. (
      (s.text, (s.grammar, (s.edition, s.dialect))),
      (s.depth, (s.prelude, (s.held, (s.trees, s.given)))),
    ))
    (λ p. record {
      text = p.0.0;
      grammar = p.0.1.0;
      edition = p.0.1.1.0;
      dialect = p.0.1.1.1;
      depth = p.1.0;
      prelude = p.1.1.0;
      held = p.1.1.1.0;
      trees = p.1.1.1.1.0;
      given = p.1.1.1.1.1;
    })
    (λ _. refl)

-- the definitions of these pieces, the nearest first
abbrev pub definitions_of : List Forest → List Definition
definitions_of prelude = definitions_after [] prelude

-- what the meaning of a session's text is built on, where the grammars give these answers
abbrev pub layers_of : {G : Type 0} → (G → Grammar) → State G → Layers
layers_of answer state = layers (answer state.grammar) state.edition state.dialect
