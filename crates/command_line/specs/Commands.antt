-- The command line of the program, as `clap` reads it. (Of this project.)
use Rattle.std.specs.Prelude.{◌≡◌, ◌≢◌, Bool, List, [], ◌∷◌, ◌++◌, codes, map, Option, Some, None}
use Rattle.std.specs.Prelude.{option_map, true, false, unwrap_or, ⊤}
use Rattle.clap.specs.Simple.{App, Shape, new_rule, new_shape, subcommand_of}
use Rattle.any_grammar.specs.declared.chosen.AnyGrammar.{AnyGrammar}
use Rattle.clap.specs.Walk.{Row, Rule, Text, all_of, first_of, one_of}
use Rattle.clap.specs.declared.builder.action.ArgAction.TheVariants.{Append, SetTrue}
use Rattle.clap.specs.declared.builder.value_parser.ValueParser.{ValueParser}
use Rattle.expander_run.specs.declared.options.Options.{Options}
use Rattle.command_line.specs.Choices.{Chosen, action_name}
use Rattle.command_line.specs.declared.job.Diagnostics.{Diagnostics}
use Rattle.command_line.specs.declared.job.Diagnostics.TheVariants.{All, Likely, Nothing}
use Rattle.command_line.specs.declared.job.Job.{Job}
use Rattle.command_line.specs.declared.request.Request.{Request}
use Rattle.command_line.specs.declared.request.Request.TheVariants.{Work}

-- an option with a value: it is named so, and has this value where it is not used
abbrev pub option_rule : Text → Text → ValueParser → Rule
option_rule name default parser = record (new_rule name) {
  long = Some name;
  value_names = 1;
  defaults = default ∷ [];
  parser = Some parser;
}

-- the folder of the libraries: an option with no value where it is not used
abbrev pub library_rule : Rule
library_rule = record (new_rule (codes "std")) { long = Some (codes "std"); value_names = 1 }

-- the other files: an option that may be used any number of times
abbrev pub with_rule : Rule
with_rule = record (new_rule (codes "with")) {
  long = Some (codes "with");
  value_names = 1;
  action = Some Append;
}

-- the options for conditional compilation: an option that may be used any number of times
abbrev pub cfg_rule : Rule
cfg_rule = record (new_rule (codes "cfg")) {
  long = Some (codes "cfg");
  value_names = 1;
  action = Some Append;
}

-- a layout is asked for: an option with no value of its own
abbrev pub layout_rule : Rule
layout_rule = record (new_rule (codes "layout")) {
  long = Some (codes "layout");
  action = Some SetTrue;
}

-- JSON is asked for: an option with no value of its own
abbrev pub json_rule : Rule
json_rule = record (new_rule (codes "json")) { long = Some (codes "json"); action = Some SetTrue }

-- each file of a crate by itself: an option with no value of its own
abbrev pub apart_rule : Rule
apart_rule = record (new_rule (codes "files")) {
  long = Some (codes "files");
  action = Some SetTrue;
}

-- the root of a crate: an option with no value where it is not used
abbrev pub crate_rule : Rule
crate_rule = record (new_rule (codes "crate")) { long = Some (codes "crate"); value_names = 1 }

-- other crates: an option that may be used any number of times
abbrev pub extern_rule : Rule
extern_rule = record (new_rule (codes "extern")) {
  long = Some (codes "extern");
  value_names = 1;
  action = Some Append;
}

-- the files, which have no name on the command line
abbrev pub file_rule : Rule
file_rule = record (new_rule (codes "file")) { value_names = 1; action = Some Append }

-- a command with the options that choose the language, whatever tests their values
pub record ChoosesLanguage (name : Text) (shape : Shape) : Type 0 where
  pub grammar : ValueParser
  pub edition : ValueParser
  pub scope : ValueParser
  pub shape_is : shape ≡ record (new_shape name) {
    rules = option_rule (codes "grammar") (codes "rust") grammar
        ∷ option_rule (codes "edition") (codes "2024") edition
        ∷ option_rule (codes "scope") (codes "rust") scope ∷ [];
  }

-- a command with this name and the options that each subcommand has, whatever tests their values
pub record HasOptions (name : Text) (shape : Shape) : Type 0 where
  pub grammar : ValueParser
  pub edition : ValueParser
  pub scope : ValueParser
  pub depth : ValueParser
  pub calls : ValueParser
  pub tokens : ValueParser
  pub shape_is : shape ≡ record (new_shape name) {
    rules = option_rule (codes "grammar") (codes "rust") grammar
        ∷ option_rule (codes "edition") (codes "2024") edition
        ∷ option_rule (codes "scope") (codes "rust") scope
        ∷ option_rule (codes "depth") (codes "128") depth
        ∷ option_rule (codes "most-calls") (codes "1048576") calls
        ∷ option_rule (codes "most-tokens") (codes "1048576") tokens ∷ [];
  }

-- a command with one more rule
abbrev pub with_more : Rule → Shape → Shape
with_more rule s = record s { rules = s.rules ++ rule ∷ [] }

-- a command that takes definitions of other texts too, and options of `cfg`
abbrev pub with_others : Shape → Shape
with_others s = with_more cfg_rule (with_more with_rule (with_more library_rule s))

pub record TakesOthers (name : Text) (shape : Shape) : Type 0 where
  pub base : Shape
  pub is_base : HasOptions name base
  pub shape_is : shape ≡ with_others base

-- a subcommand on a text
pub record IsTextSubcommand (name : Text) (shape : Shape) : Type 0 where
  pub base : Shape
  pub is_base : TakesOthers name base
  pub shape_is : shape ≡ with_more file_rule base

-- a subcommand on a text that answers as text or as JSON
pub record IsJsonSubcommand (name : Text) (shape : Shape) : Type 0 where
  pub base : Shape
  pub is_base : IsTextSubcommand name base
  pub shape_is : shape ≡ with_more json_rule base

-- how many steps are traced at most: 10,000 where the option is not used
abbrev pub steps_rule : ValueParser → Rule
steps_rule parser = option_rule (codes "to") (codes "10000") parser

-- `trace`, which shows the steps of calls, or prints JSON
pub record IsTraceSubcommand (shape : Shape) : Type 0 where
  pub base : Shape
  pub is_base : IsJsonSubcommand (codes "trace") base
  pub steps : ValueParser
  pub shape_is : shape ≡ with_more (steps_rule steps) base

-- a subcommand that takes files of a crate, and other crates
abbrev pub in_crate : Shape → Shape
in_crate s = with_more crate_rule (with_more extern_rule s)

-- `expand`, which may lay out what it prints, or print JSON, and takes files of a crate, which it may
-- print one by one
pub record IsExpandSubcommand (shape : Shape) : Type 0 where
  pub base : Shape
  pub is_base : IsTextSubcommand (codes "expand") base
  pub shape_is : shape
      ≡ in_crate (with_more apart_rule (with_more json_rule (with_more layout_rule base)))

-- `macros`, which takes files of a crate
pub record IsMacrosSubcommand (shape : Shape) : Type 0 where
  pub base : Shape
  pub is_base : IsTextSubcommand (codes "macros") base
  pub shape_is : shape ≡ in_crate base

-- which diagnostics an editor is sent: the likely ones where the option is not used
abbrev pub diagnostics_rule : ValueParser → Rule
diagnostics_rule parser = option_rule (codes "diagnostics") (codes "likely") parser

-- `lsp`, which serves an editor: it takes no file, says which diagnostics go, and takes a crate
pub record IsServerSubcommand (shape : Shape) : Type 0 where
  pub base : Shape
  pub is_base : TakesOthers (codes "lsp") base
  pub diagnostics : ValueParser
  pub shape_is : shape ≡ in_crate (with_more (diagnostics_rule diagnostics) base)

-- the program: one of its seven subcommands has to be named
abbrev pub program_shape : Shape
program_shape = record (new_shape (codes "filgordd")) {
  is_leaf = false;
  disable_help_subcommand = true;
  has_version = true;
  subcommand_required = true;
}

-- the program without its subcommands
abbrev pub bare_program : App
bare_program = record { top = record program_shape { is_leaf = true }; subs = [] }

pub record IsProgram (app : App) : Type 0 where
  pub expand : Shape
  pub explain : Shape
  pub lsp : Shape
  pub macros : Shape
  pub replay : Shape
  pub trace : Shape
  pub view : Shape
  pub is_expand : IsExpandSubcommand expand
  pub is_explain : IsJsonSubcommand (codes "explain") explain
  pub is_lsp : IsServerSubcommand lsp
  pub is_macros : IsMacrosSubcommand macros
  pub is_replay : IsJsonSubcommand (codes "replay") replay
  pub is_trace : IsTraceSubcommand trace
  pub is_view : IsTextSubcommand (codes "view") view
  pub app_is : app ≡ record {
    top = program_shape;
    subs = expand ∷ explain ∷ lsp ∷ macros ∷ replay ∷ trace ∷ view ∷ [];
  }

-- a file's name is the word for it, but `-` names none
pub record IsFile (word file : Option Text) : Type 0 where
  pub lone : word ≡ Some (codes "-") → file ≡ None
  pub other : word ≢ Some (codes "-") → file ≡ word

-- a flag is set where its value is the word for it
pub record IsFlag (word : Option Text) (set : Bool) : Type 0 where
  pub absent : word ≡ None → set ≡ false
  pub off : word ≡ Some (codes "false") → set ≡ false
  pub on : word ≡ Some (codes "true") → set ≡ true

-- which diagnostics a word stands for
pub record NamesDiagnostics (word : Option Text) (which : Diagnostics) : Type 0 where
  pub all : word ≡ Some (codes "all") → which ≡ All
  pub none : word ≡ Some (codes "none") → which ≡ Nothing
  pub other : word ≢ Some (codes "all") → word ≢ Some (codes "none") → which ≡ Likely

-- what the values of a subcommand's options choose
pub record ChosenBy (rows : List Row) (options : Options AnyGrammar) : Type 0 where
  pub grammar : Text
  pub edition : Text
  pub scope : Text
  pub depth : Text
  pub calls : Text
  pub tokens : Text
  pub has_grammar : first_of (codes "grammar") rows ≡ Some grammar
  pub has_edition : first_of (codes "edition") rows ≡ Some edition
  pub has_scope : first_of (codes "scope") rows ≡ Some scope
  pub has_depth : first_of (codes "depth") rows ≡ Some depth
  pub has_calls : first_of (codes "most-calls") rows ≡ Some calls
  pub has_tokens : first_of (codes "most-tokens") rows ≡ Some tokens
  pub chosen : Chosen grammar edition scope depth calls tokens options

-- what they ask for: a job with these options, laid out or not, as JSON or not, each file by itself
-- or not, with these diagnostics, and, each as its word names it, a folder of libraries, other files
-- in order, options of `cfg`, a text, all texts in order, other crates in order, the root of a
-- crate, and how many steps are traced
pub record AsksBy (rows : List Row) (job : Job) : Type 0 where
  pub options : ChosenBy rows job.options
  pub has_layout : IsFlag (one_of (codes "layout") rows) job.layout
  pub has_json : IsFlag (one_of (codes "json") rows) job.json
  pub has_apart : IsFlag (one_of (codes "files") rows) job.apart
  pub has_diagnostics : NamesDiagnostics (first_of (codes "diagnostics") rows) job.diagnostics
  pub has_library : first_of (codes "std") rows ≡ option_map (λ s. s.now) job.library
  pub has_with : unwrap_or (all_of (codes "with") rows) [] ≡ map (λ s. s.now) job.with.items
  pub has_cfg : unwrap_or (all_of (codes "cfg") rows) [] ≡ map (λ s. s.now) job.cfg.items
  pub has_file : IsFile (first_of (codes "file") rows) (option_map (λ s. s.now) job.file)
  pub has_files : unwrap_or (all_of (codes "file") rows) [] ≡ map (λ s. s.now) job.files.items
  pub has_externs : unwrap_or (all_of (codes "extern") rows) []
      ≡ map (λ s. s.now) job.externs.items
  pub has_root : first_of (codes "crate") rows ≡ option_map (λ s. s.now) job.root
  pub has_steps : first_of (codes "to") rows ≡ option_map (λ s. s.now) job.steps

-- the subcommand that was named, and its values, ask for this job
abbrev pub AsksFor : Option (Text × List Row) → Job → Type 0
AsksFor None job = ⊥
AsksFor (Some (name, rows)) job = (name ≡ action_name job.action) × AsksBy rows job

-- words that ask for work ask for that of their subcommand and its values, as `clap` gives them of
-- the words
abbrev pub IsAsked : List Text → Request → Type 0
IsAsked words (Work job) = (app : App) × IsProgram app × AsksFor (subcommand_of app words) job
IsAsked words _ = ⊤
