use Rattle.std.proofs.Common.{◌≡◌, ◌∙◌, ◌++◌, ◌∷◌, [], sym, subst, false, nat_eq}
use Rattle.std.proofs.lemmas.Map.Keys.{IsDistinct-push}
use Rattle.std.specs.Cmp.{nat_eq_equiv}
use Rattle.std.specs.List.{IsDistinct, list_any}
use Rattle.tt.specs.Anchors.{Tells}
use Rattle.tt.proofs.RelabellingLemmas.{met_tells}
use Rattle.tt.proofs.top_subtree.relabel.meet.Goals as goal

pub returns-clause-stand : goal.returns-clause-stand
returns-clause-stand c =
    let met = c.args.anchors.now.met.items in
    let a = c.args.anchor in
    let gone : list_any (nat_eq a) met ≡ false = sym c.is_met.ensures ∙ c.if-is_met.false in
    let more : c.push.new.self.items ≡ met ++ a ∷ [] = c.in_ok-push.ensures.items in (
      subst (IsDistinct nat_eq) (sym more) (IsDistinct-push nat_eq_equiv met a c.requires.0 gone),
      subst (λ xs. Tells xs [] c.insert.new.self) (sym more)
          (met_tells met a c.args.anchors.now.answers c.insert.new.self c.requires.1 c.in_ok-insert.ensures.updates.0),
    )
