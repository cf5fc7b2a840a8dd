-- Which words choose which options. (Of this project.)
use Rattle.std.specs.Prelude.{◌≡◌, ℕ, List, Option, Some, None, codes}
use Rattle.std.specs.Str.Parse.{IsNumeral, digits_value, without_leading_plus}
use Rattle.tt_data.specs.declared.edition.Edition.{Edition}
use Rattle.any_grammar.specs.declared.chosen.AnyGrammar.{AnyGrammar}
use Rattle.any_grammar.specs.declared.chosen.AnyGrammar.TheVariants.{Small, Rust}
use Rattle.expander_model.specs.Dialects.{dialect_by}
use Rattle.expander_model.specs.declared.limits.Limits.{Limits}
use Rattle.expander_model.specs.declared.scope_rules.ScopeRules.{ScopeRules}
use Rattle.expander_model.specs.declared.scope_rules.ScopeRules.TheVariants as rules
use Rattle.expander_run.specs.declared.options.Options.{Options}
use Rattle.crate_picks.specs.Editions.{edition_name}
use Rattle.command_line.specs.declared.job.Action.{Action}
use Rattle.command_line.specs.declared.job.Action.TheVariants.{Expand, Explain, Macros, Replay}
use Rattle.command_line.specs.declared.job.Action.TheVariants.{Serve, Trace, View}

-- the name of a subcommand
abbrev pub action_name : Action → List ℕ
action_name Expand = codes "expand"
action_name Explain = codes "explain"
action_name Macros = codes "macros"
action_name Replay = codes "replay"
action_name Serve = codes "lsp"
action_name Trace = codes "trace"
action_name View = codes "view"

-- a word names a grammar; that of Rust is of this edition
abbrev pub IsGrammar : List ℕ → Edition → AnyGrammar → Type 0
IsGrammar word edition Small = word ≡ codes "small"
IsGrammar word edition (Rust e) = (word ≡ codes "rust") × (e ≡ edition)

-- the name of rules of scopes
abbrev pub scope_name : ScopeRules → List ℕ
scope_name rules.TopLevel = codes "top"
scope_name rules.Rust = codes "rust"

-- a word is a decimal number; a plus may come before it
pub record IsNumber (word : List ℕ) (n : ℕ) : Type 0 where
  pub numeral : IsNumeral 10 (without_leading_plus word)
  pub value : n ≡ digits_value 10 (without_leading_plus word)

-- words say how many calls and tokens there may be; by the rules of the top level there is no limit
abbrev pub IsLimited : ScopeRules → List ℕ → List ℕ → Option Limits → Type 0
IsLimited rules.TopLevel calls tokens limits = limits ≡ None
IsLimited rules.Rust calls tokens limits =
    (l : Limits) × ((limits ≡ Some l) × (IsNumber calls l.calls × IsNumber tokens l.tokens))

-- the words for a grammar, an edition, rules of scopes, a number of levels, and how many calls and
-- tokens there may be, choose these options
pub record Chosen (grammar edition scope depth calls tokens : List ℕ) (options : Options AnyGrammar)
    : Type 0 where
  pub by_grammar : IsGrammar grammar options.edition options.grammar
  pub by_edition : edition ≡ edition_name options.edition
  pub by_scope : scope ≡ scope_name options.dialect.scope
  pub dialect : options.dialect
      ≡ record (dialect_by options.dialect.scope) { limits = options.dialect.limits }
  pub by_depth : IsNumber depth options.depth
  pub by_limits : IsLimited options.dialect.scope calls tokens options.dialect.limits
