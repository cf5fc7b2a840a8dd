-- What the meaning of a text is built on: its reading, its definitions' meaning, its spelling.
use Rattle.tt_data.specs.declared.edition.Edition.{Edition}
use Rattle.bridge.specs.TokenSteps.{text_reading}
use Rattle.mbe.specs.Grammar.{Grammar}
use Rattle.expander_model.specs.Meaning.{Layers}
use Rattle.expander_model.specs.Printing.{spelling_before}
use Rattle.expander_model.specs.World.{world}
use Rattle.expander_model.specs.declared.dialect.Dialect.{Dialect}

-- the layers for a grammar's answers, an edition and a dialect
abbrev pub layers : Grammar → Edition → Dialect → Layers
layers grammar edition dialect = record {
  read = text_reading;
  world = world grammar edition dialect;
  spelling = spelling_before;
}
