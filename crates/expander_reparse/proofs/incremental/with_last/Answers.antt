use Rattle.expander_reparse.specs.Reparsing.{IsReparse}
use Rattle.expander_reparse.proofs.MadeLemmas.{last_theirs}
use Rattle.expander_reparse.proofs.SegmentBuilderLemmas.{made_all}
use Rattle.expander_reparse.proofs.PieceReadingLemmas.{LastLaws, last_read}
use Rattle.expander_reparse.proofs.incremental.with_last.Goals as goal

pub returns-clause-read : goal.returns-clause-read
returns-clause-read c =
    let laws : LastLaws = record {
      text = c.parts_of_a_text.ensures.text;
      elsewhere = c.parts_at_other_places.ensures.steps;
      read = c.reading_is_a_relation.ensures.read;
      same_tree = c.parts_at_other_places.ensures.relative;
      at_first = c.parts_at_other_places.ensures.first;
    } in
    let p : IsReparse c.requires.passing.0 c.args.text.now c.args.at c.args.left.now c.end.new.self = c.in_ok-end.ensures.passing c.requires.passing.0 c.requires.passing.1 in
    let is = last_read laws c.args.text.now c.args.at c.args.left.now c.end.new.self.own.items c.in-Some.last _ c.in_default-push.ensures.items
    (rw c.in-Some.is at c.in_ok-last.ensures.last) p.passed in
    (is.0, is.1, is.2, p.listed)

pub returns-clause-theirs : goal.returns-clause-theirs
returns-clause-theirs c =
    let p : IsReparse c.requires.passing.0 c.args.text.now c.args.at c.args.left.now c.end.new.self = c.in_ok-end.ensures.passing c.requires.passing.0 c.requires.passing.1 in
    last_theirs (record { list = c.end.new.self.list }) c.end.new.self.own.items _ c.in-Some.last c.in_default-push.ensures.items
    (made_all c.requires.passing.0 c.args.text.now c.args.at c.args.left.now c.end.new.self p c.in_ok-end.ensures.none)
