-- What definitions mean: their rules, and what the first rule that fits a call gives.
use Rattle.std.specs.Prelude.{Option, option_map, is_some, if◌then◌else◌}
use Rattle.tt_data.specs.Forest.{Forest}
use Rattle.tt_data.specs.declared.edition.Edition.{Edition}
use Rattle.tt_data.specs.declared.span.Span.{Span}
use Rattle.tt_data.specs.declared.span.SyntaxContext.TheVariants.{Made}
use Rattle.mbe.specs.mbe_rules.Items.{Rules}
use Rattle.mbe.specs.mbe_rules.Parsing.{macro_of, macro_rules_of}
use Rattle.mbe.specs.mbe_rules.declared.macro_call_style.MacroCallStyle.TheVariants.{FnLike}
use Rattle.mbe.specs.Bursts as made_by
use Rattle.mbe.specs.PutOut as counted
use Rattle.mbe.specs.Fit.{fit}
use Rattle.mbe.specs.Grammar.{Grammar}
use Rattle.mbe.specs.Markers.{is_name}
use Rattle.expander_model.specs.Definitions.{Definition}
use Rattle.expander_model.specs.EditionMarks.{edition_in}
use Rattle.expander_model.specs.Expansion.{World}
use Rattle.expander_model.specs.declared.dialect.Dialect.{Dialect}

-- the rules of a definition, all of whose identifiers are of this edition, with its first fault
abbrev pub rules_by : Edition → Definition → Rules
rules_by edition d =
    if d.is_macro then macro_of (λ context. edition) d.arguments d.body
    else macro_rules_of (λ context. edition) d.body

-- the same in the edition of the definition's mark, or else in this one
abbrev pub rules_in : Edition → Definition → Rules
rules_in edition d = rules_by (edition_in edition d.piece) d

-- the span of a transcriber's token in a call's result: its own, with the context `Made`
abbrev pub made : Span → Span
made span = record span { ctx = Made }

-- what the first of these rules that fits an argument gives
abbrev pub fit_of : Grammar → Rules → Forest → Option Forest
fit_of grammar rules argument = option_map (λ r. r.1)
    (fit is_name grammar made rules.list FnLike argument)

-- what definitions mean by this grammar, edition and dialect
abbrev pub world : Grammar → Edition → Dialect → World Definition
world grammar edition dialect = record {
  broken = λ d. is_some (rules_in edition d).err;
  fit = λ d argument. fit_of grammar (rules_in edition d) argument;
  put_out = λ d argument. counted.put_out is_name grammar made
      (rules_in edition d).list FnLike argument;
  bursts = λ d argument. made_by.bursts is_name grammar made
      (rules_in edition d).list FnLike argument;
  dialect = dialect;
}
