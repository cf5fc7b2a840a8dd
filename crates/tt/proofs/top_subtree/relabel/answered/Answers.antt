use Rattle.std.proofs.Common.{◌≡◌, ◌∙◌, ◌++◌, ◌∷◌, [], ap, sym, rules, of_calls, append-nil}
use Rattle.std.proofs.lemmas.Fn.{FoldsTo-push}
use Rattle.std.proofs.lemmas.List.{nil_from_length}
use Rattle.tt.specs.Relabelling.{Answers, asked_about}
use Rattle.tt.proofs.RelabellingLemmas.{answer_tells, all_tell, asked-push}
use Rattle.tt.proofs.top_subtree.relabel.answered.Goals as goal

pub loop-anchor-preserved : goal.loop-anchor-preserved
loop-anchor-preserved g c =
    let met = c.args.anchors.met.items in
    let (entries, made, are, tells) = c.loop-anchor.invariant.1 in
    let a = c.in-Some.anchor.now in
    let more = c.in-Some.more.now in
    let r = c.f-answer.result in
    let next : c.loop-anchor.rest.now ≡ a ∷ more = search rules in
    let all : asked_about entries ++ a ∷ more ≡ met = ap (λ xs. asked_about entries ++ xs) (sym next) ∙ are in (
      search of_calls,
      (
        entries ++ (a, r) ∷ [],
        FoldsTo-push (Answers g.F.FnMut) c.args.f entries c.loop-anchor.f (a, r) c.f-answer.new.self made c.f-answer.ensures,
        asked-push entries (a, r) more ∙ all,
        answer_tells met entries a r more c.loop-anchor.answers c.insert.new.self all c.requires.stand.0 tells c.in-Ok.ensures.updates.0,
      ),
    )

pub returns : goal.returns
returns g c =
    let (entries, made, are, tells) = c.loop-anchor.invariant.1 in
    let none : c.loop-anchor.rest.now ≡ [] = nil_from_length c.loop-anchor.rest.now (search rules) in
    let all : asked_about entries ≡ c.args.anchors.met.items = sym (append-nil (asked_about entries)) ∙ ap (λ xs. asked_about entries ++ xs) (sym none) ∙ are in
    (entries, c.loop-anchor.f, made, all, all_tell c.args.anchors.met.items entries c.loop-anchor.answers all tells)
