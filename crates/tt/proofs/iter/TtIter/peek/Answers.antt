-- The next tree; for a group with its trees inside.
use Rattle.std.proofs.Common.{◌≡◌, ◌∷◌, drop, refl, ap, sym, ◌∙◌, Some}
use Rattle.tt_data.specs.Forest.{Forest, group, size}
use Rattle.tt_data.specs.declared.tree.Subtree.{Subtree}
use Rattle.tt.specs.Elements.{first_element}
use Rattle.tt.specs.declared.iter.TtElement.TheVariants as element
use Rattle.token_bytes.specs.Items.{items}
use Rattle.tt.proofs.Steps.{Step, step, fits}
use Rattle.tt.proofs.iter.TtIter.peek.Goals as goal
use Rattle.tt.proofs.iter.TtIter.peek.Goals.{After-front-inner}

first_of : (s : Subtree) (f inner rest : Forest) → f ≡ group s.delimiter inner rest → s.len ≡ size inner → Some (element.Subtree s inner) ≡ first_element f
first_of s f inner rest all counted = rw all (ap (λ n. Some (element.Subtree (record { delimiter = s.delimiter; len = n }) inner)) counted)

pub front-inner-requires : goal.front-inner-requires
front-inner-requires c = rw c.usize_len.ensures (fits _ _ _ c.self.invariant (c.in_ok-first.ensures ∙ ap (λ t. t ∷ items c.in_ok-first.more) c.in-Subtree.is))

-- the group begins the list, with what it has inside
ahead : (c : After-front-inner) → Step c.in-Subtree.subtree (items c.self.inside.tokens) (items c.front-inner.result) (drop c.in-Subtree.subtree.len (items c.in_ok-first.more))
ahead c =
    let all = c.in_ok-first.ensures ∙ ap (λ t. t ∷ items c.in_ok-first.more) c.in-Subtree.is in
    step _ _ _ _ _ c.self.invariant all (rw c.usize_len.ensures at c.front-inner.ensures) refl

pub invariant_of-result : goal.invariant_of-result
invariant_of-result c = (ahead c).inner_whole

pub returns-in-Subtree : goal.returns-in-Subtree
returns-in-Subtree c = first_of _ _ _ _ (sym c.self.view_is ∙ (ahead c).next.0) (ahead c).next.1
