-- The words of a command line, as clap gives them.
use Rattle.std.proofs.Common.{◌≡◌, List, [], ◌∷◌, Option, Some, None, Bool, true, false, sym, ap, ◌∙◌, subst, codes}
use Rattle.std.specs.Prelude.{◌||◌, IfOk, IfSome, Result, Ok, Err, option_map, unwrap_or}
use Rattle.clap.proofs.WalkLemmas.{first_value-rows, one_text-rows, raw_values-rows}
use Rattle.clap.specs.Matches.{first_value, matched_of, one_text, raw_values}
use Rattle.clap.specs.Simple.{App, Shape, is_simple, new_shape}
use Rattle.clap.specs.Walk.{Row, Text, all_of, first_of, one_of, rows_of}
use Rattle.clap.specs.declared.builder.value_parser.ValueParser.{ValueParser}
use Rattle.clap.specs.declared.parser.matches.Found.{Found}
use Rattle.command_line.specs.Choices.{action_name}
use Rattle.command_line.specs.Commands.{AsksBy, AsksFor, HasOptions, IsFile, IsFlag, IsJsonSubcommand, IsProgram, IsTextSubcommand, NamesDiagnostics, apart_rule, diagnostics_rule, file_rule, in_crate, json_rule, layout_rule, option_rule, program_shape, steps_rule, with_more, with_others}
use Rattle.command_line.specs.declared.job.Action.{Action}
use Rattle.command_line.specs.declared.job.Diagnostics.{Diagnostics}
use Rattle.command_line.specs.declared.job.Job.{Job}

-- the value that was got of an id is the first of its row
pub value_is : {B : Type 0} (now : B → Text) (f : Found) (id : Text) (got : Option B) (x : B) → option_map now got ≡ first_value f id → got ≡ Some x
    → first_of id (rows_of f) ≡ Some (now x)
value_is now f id got x is was = sym (first_value-rows f id) ∙ sym is ∙ ap (option_map now) was

pub file_is : {B : Type 0} (now : B → Text) (f : Found) (id : Text) (got : Option B) (file : Option Text) → option_map now got ≡ first_value f id
    → IsFile (option_map now got) file → IsFile (first_of id (rows_of f)) file
file_is now f id got file is h = subst (λ (word : Option Text). IsFile word file) (is ∙ first_value-rows f id) h

pub diagnostics_are : {B : Type 0} (now : B → Text) (f : Found) (id : Text) (got : Option B) (which : Diagnostics) → option_map now got ≡ first_value f id
    → NamesDiagnostics (option_map now got) which → NamesDiagnostics (first_of id (rows_of f)) which
diagnostics_are now f id got which is h = subst (λ (word : Option Text). NamesDiagnostics word which) (is ∙ first_value-rows f id) h

-- what was got of an id, if anything, is the first of its row
pub option_is : {B : Type 0} (now : B → Text) (f : Found) (id : Text) (got : Option B) → option_map now got ≡ first_value f id
    → first_of id (rows_of f) ≡ option_map now got
option_is now f id got is = sym (first_value-rows f id) ∙ sym is

-- the values that were got of an id are all of its row
pub values_are : {B : Type 0} (now : B → List Text) (f : Found) (id : Text) (got : Option B) (values : List Text)
    → option_map now got ≡ option_map raw_values (matched_of f id) → unwrap_or (option_map now got) [] ≡ values
    → unwrap_or (all_of id (rows_of f)) [] ≡ values
values_are now f id got values is same =
    ap (λ (o : Option (List Text)). unwrap_or o []) (sym (raw_values-rows f id) ∙ sym is) ∙ same

-- a flag that was got is that of its row
pub flag_is : (f : Found) (id : Text) (set : Bool) → (one_text f id ≡ None → set ≡ false) → (one_text f id ≡ Some (codes "true") → set ≡ true)
    → (one_text f id ≡ Some (codes "false") → set ≡ false) → IsFlag (one_of id (rows_of f)) set
flag_is f id set absent on off = record {
  absent = λ h. absent (one_text-rows f id ∙ h);
  off = λ h. off (one_text-rows f id ∙ h);
  on = λ h. on (one_text-rows f id ∙ h);
}

-- a command without global options has none after one more that is none
pub none_global : (new old global : Bool) → new ≡ (old || global) → old ≡ false → global ≡ false → new ≡ false
none_global new false false h e f = h
none_global new true global h e f = absurd (cc e)
none_global new false true h e f = absurd (cc f)

-- a name and rows that were got apart stand together
pub together : {B : Type 0} (o : Option B) (name_of : B → Text) (rows : B → List Row) (n : Text) (r : List Row) → option_map name_of o ≡ Some n
    → option_map (λ (p : Text × List Row). p.1) (option_map {U = Text × List Row} (λ b. (name_of b, rows b)) o) ≡ Some r → option_map {U = Text × List Row} (λ b. (name_of b, rows b)) o ≡ Some (n, r)
together None name_of rows n r e f = absurd (cc e)
together (Some b) name_of rows n r e f =
    let same : name_of b ≡ n = cc e in
    let more : rows b ≡ r = cc f in
    ap (λ (m : Text). Some (m, rows b)) same ∙ ap (λ (s : List Row). Some (n, s)) more

-- a job by a subcommand and its values
pub asks_for : (o : Option (Text × List Row)) (name : Text) (rows : List Row) (action : Action) (job : Option Job) → o ≡ Some (name, rows)
    → name ≡ action_name action → IfSome job (λ j. j.action ≡ action) → IfSome job (AsksBy rows) → IfSome job (AsksFor o)
asks_for o name rows action None is named by asks = tt
asks_for o name rows action (Some j) is named by asks = rw is (named ∙ sym (ap action_name by), asks)

-- the same where the job is made in memory
pub makes_asked : {E : Type 0} (o : Option (Text × List Row)) (name : Text) (rows : List Row) (action : Action) (job : Result (Option Job) E) → o ≡ Some (name, rows)
    → name ≡ action_name action → IfOk job (λ m. IfSome m (λ j. j.action ≡ action)) → IfOk job (λ m. IfSome m (AsksBy rows)) → IfOk job (λ m. IfSome m (AsksFor o))
makes_asked o name rows action (Err e) is named by asks = tt
makes_asked o name rows action (Ok m) is named by asks = asks_for o name rows action m is named by asks

-- a command with these tests of its values
abbrev options_of_name : Text → ValueParser → ValueParser → ValueParser → ValueParser → ValueParser → ValueParser → Shape
options_of_name name grammar edition scope depth calls tokens = record (new_shape name) {
  rules = option_rule (codes "grammar") (codes "rust") grammar
      ∷ option_rule (codes "edition") (codes "2024") edition
      ∷ option_rule (codes "scope") (codes "rust") scope
      ∷ option_rule (codes "depth") (codes "128") depth
      ∷ option_rule (codes "most-calls") (codes "1048576") calls
      ∷ option_rule (codes "most-tokens") (codes "1048576") tokens ∷ [];
}

-- the shape of a subcommand that has the options of each
abbrev shape_by : (name : Text) (shape : Shape) → HasOptions name shape → Shape
shape_by name shape h = options_of_name name h.grammar h.edition h.scope h.depth h.calls h.tokens

-- the shape of a subcommand on a text
abbrev text_shape : (name : Text) (shape : Shape) → IsTextSubcommand name shape → Shape
text_shape name shape h = with_more file_rule (with_others (shape_by name h.is_base.base h.is_base.is_base))

text_shape_is : (name : Text) (shape : Shape) (h : IsTextSubcommand name shape) → shape ≡ text_shape name shape h
text_shape_is name shape h =
    h.shape_is ∙ ap (with_more file_rule) (h.is_base.shape_is ∙ ap with_others h.is_base.is_base.shape_is)

-- and one that answers as JSON too
abbrev json_shape : (name : Text) (shape : Shape) → IsJsonSubcommand name shape → Shape
json_shape name shape h = with_more json_rule (text_shape name h.base h.is_base)

json_shape_is : (name : Text) (shape : Shape) (h : IsJsonSubcommand name shape) → shape ≡ json_shape name shape h
json_shape_is name shape h = h.shape_is ∙ ap (with_more json_rule) (text_shape_is name h.base h.is_base)

-- the program is one of which clap says the matches
pub is_simple_program : (app : App) → IsProgram app → is_simple app ≡ true
is_simple_program app p =
    let of_all : Shape → Shape → Shape → Shape → Shape → Shape → Shape → App = λ a b c d e f g.
    record { top = program_shape; subs = a ∷ b ∷ c ∷ d ∷ e ∷ f ∷ g ∷ [] } in
    let with_expand : Shape → Shape = λ s. in_crate (with_more apart_rule (with_more json_rule (with_more layout_rule s))) in
    let with_sent : Shape → Shape = λ s. in_crate (with_more (diagnostics_rule p.is_lsp.diagnostics) s) in
    let with_steps : Shape → Shape = with_more (steps_rule p.is_trace.steps) in
    let expand : Shape = with_expand (text_shape (codes "expand") p.is_expand.base p.is_expand.is_base) in
    let explain : Shape = json_shape (codes "explain") p.explain p.is_explain in
    let lsp : Shape = with_sent (with_others (shape_by (codes "lsp") p.is_lsp.is_base.base p.is_lsp.is_base.is_base)) in
    let macros : Shape = in_crate (text_shape (codes "macros") p.is_macros.base p.is_macros.is_base) in
    let replay : Shape = json_shape (codes "replay") p.replay p.is_replay in
    let trace : Shape = with_steps (json_shape (codes "trace") p.is_trace.base p.is_trace.is_base) in
    ap is_simple (p.app_is
    ∙ ap (λ (s : Shape). of_all s p.explain p.lsp p.macros p.replay p.trace p.view)
    (p.is_expand.shape_is ∙ ap with_expand (text_shape_is (codes "expand") p.is_expand.base p.is_expand.is_base))
    ∙ ap (λ (s : Shape). of_all expand s p.lsp p.macros p.replay p.trace p.view) (json_shape_is (codes "explain") p.explain p.is_explain)
    ∙ ap (λ (s : Shape). of_all expand explain s p.macros p.replay p.trace p.view)
    (p.is_lsp.shape_is ∙ ap with_sent (p.is_lsp.is_base.shape_is ∙ ap with_others p.is_lsp.is_base.is_base.shape_is))
    ∙ ap (λ (s : Shape). of_all expand explain lsp s p.replay p.trace p.view)
    (p.is_macros.shape_is ∙ ap in_crate (text_shape_is (codes "macros") p.is_macros.base p.is_macros.is_base))
    ∙ ap (λ (s : Shape). of_all expand explain lsp macros s p.trace p.view) (json_shape_is (codes "replay") p.replay p.is_replay)
    ∙ ap (λ (s : Shape). of_all expand explain lsp macros replay s p.view)
    (p.is_trace.shape_is ∙ ap with_steps (json_shape_is (codes "trace") p.is_trace.base p.is_trace.is_base))
    ∙ ap (λ (s : Shape). of_all expand explain lsp macros replay trace s) (text_shape_is (codes "view") p.view p.is_view))
