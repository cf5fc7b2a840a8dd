use Rattle.std.proofs.Common.{List, Option, ap, map, sym, ◌∙◌, []}
use Rattle.std.specs.Borrow.{Bor}
use Rattle.std.specs.Prelude.{option_map, unwrap_or}
use Rattle.std.proofs.lemmas.Result.{IfOk-weaker}
use Rattle.clap.specs.Walk.{Text}
use Rattle.clap.specs.Words.{found_of}
use Rattle.command_line.proofs.CommandLemmas.{values_are}
use Rattle.command_line.proofs.request.words_of.Goals as goal

-- the texts behind references
abbrev texts_of : List (Bor Text) → List Text
texts_of words = map (λ s. s.now) words

abbrev texts : Bor (List (Bor Text)) → List Text
texts words = map (λ s. s.now) words.now

-- the texts that were got, if any
abbrev got : Option (Bor (List (Bor Text))) → List Text
got o = unwrap_or (option_map texts o) []

pub returns-in-Some : goal.returns-in-Some
returns-in-Some c =
    let all = values_are texts (found_of c.args.matches.now) c.args.name.now c.get_strs.result (texts c.in-Some.words) c.get_strs.ensures (ap got c.in-Some.is) in
    IfOk-weaker c.from_slice.result _ _ (λ v h. all ∙ sym (ap texts_of h)) c.from_slice.ensures.items

pub returns-in-None : goal.returns-in-None
returns-in-None c =
    values_are texts (found_of c.args.matches.now) c.args.name.now c.get_strs.result [] c.get_strs.ensures (ap got c.in-None.is)
    ∙ sym (ap texts_of c.new.ensures.items)
