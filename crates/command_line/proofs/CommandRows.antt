-- Words, and the subcommand and values that they give: worked examples.
use Rattle.std.proofs.Common.{◌≡◌, List, [], ◌∷◌, Option, Some, None, codes, refl}
use Rattle.std.specs.Prelude.{option_map}
use Rattle.clap.proofs.OnLiterals.{clap_on_literals}
use Rattle.clap.specs.Simple.{App, Shape, new_shape, subcommand_of}
use Rattle.clap.specs.Walk.{Text, all_of, first_of, one_of}
use Rattle.clap.specs.declared.builder.value_parser.ValueParser.{ValueParser}
use Rattle.command_line.specs.Commands.{apart_rule, diagnostics_rule, file_rule, in_crate, json_rule, layout_rule, option_rule, program_shape, steps_rule, with_more, with_others}

module _ (grammar edition scope depth calls tokens diagnostics steps : ValueParser) where
  abbrev named : Text → Shape
  named name = record (new_shape name) {
    rules = option_rule (codes "grammar") (codes "rust") grammar
        ∷ option_rule (codes "edition") (codes "2024") edition
        ∷ option_rule (codes "scope") (codes "rust") scope
        ∷ option_rule (codes "depth") (codes "128") depth
        ∷ option_rule (codes "most-calls") (codes "1048576") calls
        ∷ option_rule (codes "most-tokens") (codes "1048576") tokens ∷ [];
  }

  abbrev on_text : Text → Shape
  on_text name = with_more file_rule (with_others (named name))

  abbrev program : App
  program = record {
    top = program_shape;
    subs = in_crate (with_more apart_rule (with_more json_rule (with_more layout_rule (on_text (codes "expand")))))
        ∷ with_more json_rule (on_text (codes "explain"))
        ∷ in_crate (with_more (diagnostics_rule diagnostics) (with_others (named (codes "lsp"))))
        ∷ in_crate (on_text (codes "macros")) ∷ with_more json_rule (on_text (codes "replay"))
        ∷ with_more (steps_rule steps) (with_more json_rule (on_text (codes "trace")))
        ∷ on_text (codes "view") ∷ [];
  }

  -- the subcommand, the four values and the file
  abbrev got : List Text → Option (List (Option Text))
  got words = option_map (λ p. Some p.0 ∷ first_of (codes "grammar") p.1 ∷ first_of (codes "edition") p.1
      ∷ first_of (codes "scope") p.1 ∷ first_of (codes "depth") p.1 ∷ first_of (codes "file") p.1 ∷ []) (subcommand_of program words)

  -- `filgordd replay --grammar small s`
  a_script : got (codes "filgordd" ∷ codes "replay" ∷ codes "--grammar" ∷ codes "small" ∷ codes "s" ∷ [])
      ≡ Some (Some (codes "replay") ∷ Some (codes "small") ∷ Some (codes "2024") ∷ Some (codes "rust") ∷ Some (codes "128") ∷ Some (codes "s") ∷ [])
  unfolding clap_on_literals
  a_script = refl

  -- `filgordd expand --edition=2015 --scope top --depth 0`
  no_file : got (codes "filgordd" ∷ codes "expand" ∷ codes "--edition=2015" ∷ codes "--scope" ∷ codes "top" ∷ codes "--depth" ∷ codes "0" ∷ [])
      ≡ Some (Some (codes "expand") ∷ Some (codes "rust") ∷ Some (codes "2015") ∷ Some (codes "top") ∷ Some (codes "0") ∷ None ∷ [])
  unfolding clap_on_literals
  no_file = refl

  -- `filgordd view -- --depth`
  after_dashes : got (codes "filgordd" ∷ codes "view" ∷ codes "--" ∷ codes "--depth" ∷ [])
      ≡ Some (Some (codes "view") ∷ Some (codes "rust") ∷ Some (codes "2024") ∷ Some (codes "rust") ∷ Some (codes "128") ∷ Some (codes "--depth") ∷ [])
  unfolding clap_on_literals
  after_dashes = refl

  -- how many calls and tokens there may be, and the file
  abbrev most : List Text → Option (List (Option Text))
  most words = option_map (λ p. first_of (codes "most-calls") p.1 ∷ first_of (codes "most-tokens") p.1 ∷ first_of (codes "file") p.1 ∷ []) (subcommand_of program words)

  -- `filgordd expand --most-calls 0 t`
  no_call : most (codes "filgordd" ∷ codes "expand" ∷ codes "--most-calls" ∷ codes "0" ∷ codes "t" ∷ [])
      ≡ Some (Some (codes "0") ∷ Some (codes "1048576") ∷ Some (codes "t") ∷ [])
  unfolding clap_on_literals
  no_call = refl

  -- the folder of libraries, the other files, and the file
  abbrev others : List Text → Option (Option Text × (Option (List Text) × Option Text))
  others words = option_map {U = Option Text × (Option (List Text) × Option Text)}
      (λ p. (first_of (codes "std") p.1, (all_of (codes "with") p.1, first_of (codes "file") p.1))) (subcommand_of program words)

  -- `filgordd expand --with a --std=d --with b@2021=c t`
  other_files : others (codes "filgordd" ∷ codes "expand" ∷ codes "--with" ∷ codes "a" ∷ codes "--std=d" ∷ codes "--with"
      ∷ codes "b@2021=c" ∷ codes "t" ∷ [])
      ≡ Some (Some (codes "d"), (Some (codes "a" ∷ codes "b@2021=c" ∷ []), Some (codes "t")))
  unfolding clap_on_literals
  other_files = refl

  -- whether a layout is asked for
  abbrev layout : List Text → Option (Option Text × Option Text)
  layout words = option_map {U = Option Text × Option Text}
      (λ p. (one_of (codes "layout") p.1, first_of (codes "file") p.1)) (subcommand_of program words)

  -- `filgordd expand --layout t`
  laid_out : layout (codes "filgordd" ∷ codes "expand" ∷ codes "--layout" ∷ codes "t" ∷ []) ≡ Some (Some (codes "true"), Some (codes "t"))
  unfolding clap_on_literals
  laid_out = refl

  -- `filgordd expand t`
  as_printed : layout (codes "filgordd" ∷ codes "expand" ∷ codes "t" ∷ []) ≡ Some (Some (codes "false"), Some (codes "t"))
  unfolding clap_on_literals
  as_printed = refl

  -- the subcommand, and whether JSON is asked for
  abbrev as_json : List Text → Option (Text × Option Text)
  as_json words = option_map {U = Text × Option Text} (λ p. (p.0, one_of (codes "json") p.1)) (subcommand_of program words)

  -- `filgordd explain --json t`
  explained : as_json (codes "filgordd" ∷ codes "explain" ∷ codes "--json" ∷ codes "t" ∷ []) ≡ Some (codes "explain", Some (codes "true"))
  unfolding clap_on_literals
  explained = refl

  -- `filgordd replay --json`
  replayed : as_json (codes "filgordd" ∷ codes "replay" ∷ codes "--json" ∷ []) ≡ Some (codes "replay", Some (codes "true"))
  unfolding clap_on_literals
  replayed = refl

  -- whether each file is printed by itself, and the root
  abbrev by_files : List Text → Option (Option Text × Option Text)
  by_files words = option_map {U = Option Text × Option Text}
      (λ p. (one_of (codes "files") p.1, first_of (codes "crate") p.1)) (subcommand_of program words)

  -- `filgordd expand --crate r --files`
  apart : by_files (codes "filgordd" ∷ codes "expand" ∷ codes "--crate" ∷ codes "r" ∷ codes "--files" ∷ [])
      ≡ Some (Some (codes "true"), Some (codes "r"))
  unfolding clap_on_literals
  apart = refl

  -- how many steps are traced, and the file
  abbrev traced : List Text → Option (Text × (Option Text × Option Text))
  traced words = option_map {U = Text × (Option Text × Option Text)}
      (λ p. (p.0, (first_of (codes "to") p.1, first_of (codes "file") p.1))) (subcommand_of program words)

  -- `filgordd trace --to 5 t:3`
  few_steps : traced (codes "filgordd" ∷ codes "trace" ∷ codes "--to" ∷ codes "5" ∷ codes "t:3" ∷ [])
      ≡ Some (codes "trace", (Some (codes "5"), Some (codes "t:3")))
  unfolding clap_on_literals
  few_steps = refl

  -- `filgordd trace`
  all_steps : traced (codes "filgordd" ∷ codes "trace" ∷ []) ≡ Some (codes "trace", (Some (codes "10000"), None))
  unfolding clap_on_literals
  all_steps = refl

  -- the root of a crate, and the files
  abbrev crate_words : List Text → Option (Option Text × (Option Text × Option (List Text)))
  crate_words words = option_map {U = Option Text × (Option Text × Option (List Text))}
      (λ p. (Some p.0, (first_of (codes "crate") p.1, all_of (codes "file") p.1))) (subcommand_of program words)

  -- `filgordd macros --crate r a b`
  two_files : crate_words (codes "filgordd" ∷ codes "macros" ∷ codes "--crate" ∷ codes "r" ∷ codes "a" ∷ codes "b" ∷ [])
      ≡ Some (Some (codes "macros"), (Some (codes "r"), Some (codes "a" ∷ codes "b" ∷ [])))
  unfolding clap_on_literals
  two_files = refl

  -- `filgordd expand --crate=r`
  all_files : crate_words (codes "filgordd" ∷ codes "expand" ∷ codes "--crate=r" ∷ []) ≡ Some (Some (codes "expand"), (Some (codes "r"), None))
  unfolding clap_on_literals
  all_files = refl

  -- which diagnostics an editor is sent, and the folder of libraries
  abbrev served : List Text → Option (Text × (Option Text × Option Text))
  served words = option_map {U = Text × (Option Text × Option Text)}
      (λ p. (p.0, (first_of (codes "diagnostics") p.1, first_of (codes "std") p.1))) (subcommand_of program words)

  -- `filgordd lsp --diagnostics none --std d`
  no_diagnostics : served (codes "filgordd" ∷ codes "lsp" ∷ codes "--diagnostics" ∷ codes "none" ∷ codes "--std" ∷ codes "d" ∷ [])
      ≡ Some (codes "lsp", (Some (codes "none"), Some (codes "d")))
  unfolding clap_on_literals
  no_diagnostics = refl

  -- `filgordd lsp --crate r`
  one_crate : crate_words (codes "filgordd" ∷ codes "lsp" ∷ codes "--crate" ∷ codes "r" ∷ []) ≡ Some (Some (codes "lsp"), (Some (codes "r"), None))
  unfolding clap_on_literals
  one_crate = refl

  -- `filgordd lsp`
  likely_diagnostics : served (codes "filgordd" ∷ codes "lsp" ∷ []) ≡ Some (codes "lsp", (Some (codes "likely"), None))
  unfolding clap_on_literals
  likely_diagnostics = refl
