-- Nested lists, one step after another.
use Rattle.std.proofs.Common.{◌≡◌, refl, sym, ap, ◌∙◌, suc, ◌+◌, ◌*◌, List, [], ◌∷◌, ◌++◌, Ok, Err, arith}
use Rattle.tt_data.specs.Forest.{Forest, empty, size}
use Rattle.tt_data.specs.declared.edition.Edition.{Edition}
use Rattle.tt_data.specs.declared.span.SyntaxContext.{SyntaxContext}
use Rattle.mbe_rules.specs.Items.{Items, done}
use Rattle.mbe_rules.specs.Lists.{enclosed, left_for, weight_around, found_read, left_read, around_read, whole}
use Rattle.mbe_rules.specs.Ops as ops
use Rattle.mbe_rules.specs.Ops.{put_op}
use Rattle.mbe_rules.specs.Parsed.{Parsed, ◌>>=◌}
use Rattle.mbe_rules.specs.Patterns.{Mode, items_of}
use Rattle.mbe_rules.specs.Reading.{behind}
use Rattle.mbe_rules.specs.declared.errors.ParseError.{ParseError}
use Rattle.mbe_rules.specs.declared.parse.items.Around.{Around}
use Rattle.mbe_rules.specs.declared.parse.items.Enclosing.{Enclosing}
use Rattle.mbe_rules.specs.declared.parse.items.Found.TheVariants as found
use Rattle.mbe_rules.specs.declared.parse.items.Nest.{Nest}
use Rattle.mbe_rules.specs.declared.parser.Op.{Op}
use Rattle.mbe_rules.proofs.ItemLemmas.{behind-behind, behind-done, items_of-push}

-- how much is left to be read around one list more
pub weight-push : (outer : List Around) (a : Around) → weight_around (outer ++ (a ∷ [])) ≡ weight_around outer + suc (2 * size a.rest)
weight-push [] a = omega arith
weight-push (b ∷ outer) a = let i = weight-push outer a in omega (arith, i)

behind-none : (r : Parsed Items) → behind done r ≡ r
behind-none (Ok is) = refl
behind-none (Err e) = refl

behind-then : (is : Items) (r : Parsed Items) (f : Items → Parsed Items) → behind is (r >>= f) ≡ (r >>= λ js. behind is (f js))
behind-then is (Ok js) f = refl
behind-then is (Err e) f = refl

module _ (edition : SyntaxContext → Edition) (m : Mode) where
  around-fault : (outer : List Around) (e : ParseError) → around_read edition m outer (Err e) ≡ Err e
  around-fault [] e = refl
  around-fault (a ∷ outer) e = ap (left_read edition m a) (around-fault outer e)

  around-push : (outer : List Around) (a : Around) (r : Parsed Items) →
      around_read edition m (outer ++ (a ∷ [])) r ≡ around_read edition m outer (left_read edition m a r)
  around-push [] a r = refl
  around-push (b ∷ outer) a r = ap (left_read edition m b) (around-push outer a r)

  -- a fault at the head of the innermost list
  pub at-fault : (o : Nest) (e : ParseError) → items_of edition m o.rest ≡ Err e → whole edition m o ≡ Err e
  at-fault o e h =
      ap (λ r. around_read edition m o.around.items (behind (ops.items_of o.before.items) r)) h ∙ around-fault o.around.items e

  -- an item there
  pub at-item : (o n : Nest) (op : Op) (rest : Forest) → n.before.items ≡ o.before.items ++ (op ∷ []) → n.rest ≡ rest → n.around.items ≡ o.around.items →
      items_of edition m o.rest ≡ behind (put_op op done) (items_of edition m rest) → whole edition m o ≡ whole edition m n
  at-item o n op rest before is_rest around h =
      ap (λ r. around_read edition m o.around.items (behind (ops.items_of o.before.items) r)) h
      ∙ ap (around_read edition m o.around.items)
      (behind-behind (ops.items_of o.before.items) (put_op op done) (items_of edition m rest)
      ∙ ap (λ is. behind is (items_of edition m rest)) (sym (items_of-push o.before.items op) ∙ ap ops.items_of (sym before))
      ∙ ap (λ f. behind (ops.items_of n.before.items) (items_of edition m f)) (sym is_rest))
      ∙ ap (λ outer. around_read edition m outer (behind (ops.items_of n.before.items) (items_of edition m n.rest))) (sym around)

  -- a list there
  pub at-list : (o n : Nest) (e : Enclosing) (inner rest : Forest) → n.before.items ≡ [] → n.rest ≡ inner →
      n.around.items ≡ o.around.items ++ (left_for o e rest ∷ []) →
      items_of edition m o.rest ≡ found_read edition m (Ok (found.List e inner rest)) → whole edition m o ≡ whole edition m n
  at-list o n e inner rest before is_inner around h =
      ap (λ r. around_read edition m o.around.items (behind (ops.items_of o.before.items) r)) h
      ∙ ap (around_read edition m o.around.items) (behind-then (ops.items_of o.before.items) (items_of edition m inner) (λ is. behind (enclosed e is) (items_of edition m rest)))
      ∙ sym (around-push o.around.items (left_for o e rest) (items_of edition m inner))
      ∙ ap (around_read edition m (o.around.items ++ (left_for o e rest ∷ []))) (sym (behind-none (items_of edition m inner)))
      ∙ ap (λ f. around_read edition m (o.around.items ++ (left_for o e rest ∷ [])) (behind done (items_of edition m f))) (sym is_inner)
      ∙ ap (λ os. around_read edition m (o.around.items ++ (left_for o e rest ∷ [])) (behind (ops.items_of os) (items_of edition m n.rest))) (sym before)
      ∙ ap (λ outer. around_read edition m outer (behind (ops.items_of n.before.items) (items_of edition m n.rest))) (sym around)

  whole-ended : (o : Nest) → o.rest ≡ empty → whole edition m o ≡ around_read edition m o.around.items (Ok (ops.items_of o.before.items))
  whole-ended o h =
      ap (λ f. around_read edition m o.around.items (behind (ops.items_of o.before.items) (items_of edition m f))) h
      ∙ ap (around_read edition m o.around.items) (behind-done (ops.items_of o.before.items))

  -- the end of the outermost list
  pub at-last : (o : Nest) → o.rest ≡ empty → o.around.items ≡ [] → whole edition m o ≡ Ok (ops.items_of o.before.items)
  at-last o h none = whole-ended o h ∙ ap (λ outer. around_read edition m outer (Ok (ops.items_of o.before.items))) none

  -- the end of another
  pub at-end : (o n : Nest) (outer : List Around) (a : Around) (op : Op) → o.rest ≡ empty → o.around.items ≡ outer ++ (a ∷ []) →
      put_op op done ≡ enclosed a.enclosing (ops.items_of o.before.items) →
      n.before.items ≡ a.before.items ++ (op ∷ []) → n.rest ≡ a.rest → n.around.items ≡ outer → whole edition m o ≡ whole edition m n
  at-end o n outer a op h around item before is_rest is_around =
      whole-ended o h
      ∙ ap (λ xs. around_read edition m xs (Ok (ops.items_of o.before.items))) around
      ∙ around-push outer a (Ok (ops.items_of o.before.items))
      ∙ ap (λ is. around_read edition m outer (behind (ops.items_of a.before.items) (behind is (items_of edition m a.rest)))) (sym item)
      ∙ ap (around_read edition m outer)
      (behind-behind (ops.items_of a.before.items) (put_op op done) (items_of edition m a.rest)
      ∙ ap (λ is. behind is (items_of edition m a.rest)) (sym (items_of-push a.before.items op) ∙ ap ops.items_of (sym before))
      ∙ ap (λ f. behind (ops.items_of n.before.items) (items_of edition m f)) (sym is_rest))
      ∙ ap (λ xs. around_read edition m xs (behind (ops.items_of n.before.items) (items_of edition m n.rest))) (sym is_around)
