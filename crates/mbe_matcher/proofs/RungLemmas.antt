-- Frames that threads share, and the ops that remain.
use Rattle.std.proofs.Common.{◌≡◌, refl, sym, ap, ◌∙◌, false, List, [], ◌∷◌, Option, Some, None}
use Rattle.std.specs.Borrow.{Bor}
use Rattle.std.specs.List.{slice_get}
use Rattle.mbe_rules.specs.Items.{Items, done}
use Rattle.mbe_rules.specs.Ops.{items_of}
use Rattle.mbe_rules.specs.declared.parser.Op.{Op, Var, Count, Index, Len, Ignore, Concat, Literal, Ident, Punct, Lifetime, Repeat', Subtree'}
use Rattle.mbe_matcher.specs.Readings as r
use Rattle.mbe_matcher.specs.Threads.{frames_of}
use Rattle.mbe_matcher.specs.Units as u
use Rattle.mbe_matcher.specs.declared.thread.Frame.{Frame}

-- what is in a group or round has not ended
pub some-frame : (is : Items) (fs : Option (Bor (Frame × List Frame))) (x : Bor (Frame × List Frame)) (p : u.Place) → is ≡ done → fs ≡ Some x →
    false ≡ r.has_used_up (r.at is (frames_of fs) p)
some-frame is fs x p e f = ap (λ o. r.has_used_up (r.at done (frames_of o) p)) (sym f) ∙ ap (λ i. r.has_used_up (r.at i (frames_of fs) p)) (sym e)

-- where an item is left, the pattern is not read to its end
pub goes-on : (os : List Op) (fs : List r.Frame) (p : u.Place) (o : Op) → Some o ≡ slice_get os 0 → false ≡ r.has_used_up (r.at (items_of os) fs p)
goes-on [] fs p o e = absurd (cc e)
goes-on (Repeat' s row sep k ∷ os) fs p o e = refl
goes-on (Subtree' s row d ∷ os) fs p o e = refl
goes-on (Var n k i ∷ os) fs p o e = refl
goes-on (Count n d i ∷ os) fs p o e = refl
goes-on (Index d i ∷ os) fs p o e = refl
goes-on (Len d i ∷ os) fs p o e = refl
goes-on (Ignore n i ∷ os) fs p o e = refl
goes-on (Concat es i ∷ os) fs p o e = refl
goes-on (Literal l ∷ os) fs p o e = refl
goes-on (Ident i ∷ os) fs p o e = refl
goes-on (Punct ps ∷ os) fs p o e = refl
goes-on (Lifetime q i ∷ os) fs p o e = refl

-- where none is left
pub none-left : (os : List Op) → None ≡ slice_get os 0 → items_of os ≡ done
none-left [] e = refl
none-left (o ∷ os) e = absurd (cc e)
