-- Copies of nested lists, one step after another.
use Rattle.std.proofs.Common.{◌≡◌, refl, sym, ap, ◌∙◌, suc, ◌+◌, ◌*◌, List, [], ◌∷◌, ◌++◌, arith}
use Rattle.mbe_rules.specs.Copying.{left_with, around_with, whole, weight_around}
use Rattle.mbe_rules.specs.Counts.{count_of}
use Rattle.mbe_rules.specs.Items.{Items, done}
use Rattle.mbe_rules.specs.Lists.{enclosed}
use Rattle.mbe_rules.specs.Ops.{put_op, items_of}
use Rattle.mbe_rules.specs.Reading.{joined_items}
use Rattle.mbe_rules.specs.declared.clone.Around.{Around}
use Rattle.mbe_rules.specs.declared.clone.Copying.{Copying}
use Rattle.mbe_rules.specs.declared.parser.Op.{Op}
use Rattle.mbe_rules.proofs.ItemLemmas.{joined_items-done, joined_items-grouping, put-behind, items_of-push}

-- how much is left to copy around one list more
pub weight-push : (outer : List Around) (a : Around) →
    weight_around (outer ++ (a ∷ [])) ≡ weight_around outer + suc (2 * count_of (items_of a.rest.now))
weight-push [] a = omega arith
weight-push (b ∷ outer) a = let i = weight-push outer a in omega (arith, i)

around-push : (outer : List Around) (a : Around) (is : Items) → around_with (outer ++ (a ∷ [])) is ≡ around_with outer (left_with a is)
around-push [] a is = refl
around-push (b ∷ outer) a is = ap (left_with b) (around-push outer a is)

-- copies, then a copy, then the ops that are left
with-copy : (os more : List Op) (o copy : Op) → put_op copy done ≡ put_op o done →
    joined_items (items_of (os ++ (copy ∷ []))) (items_of more) ≡ joined_items (items_of os) (put_op o (items_of more))
with-copy os more o copy same =
    ap (λ is. joined_items is (items_of more)) (items_of-push os copy)
    ∙ joined_items-grouping (items_of os) (put_op copy done) (items_of more)
    ∙ ap (λ is. joined_items (items_of os) (joined_items is (items_of more))) same
    ∙ ap (joined_items (items_of os)) (sym (put-behind o (items_of more)))

-- an op without a list inside
pub at-item : (n m : Copying) (o copy : Op) (more : List Op) → n.rest.now ≡ o ∷ more → put_op copy done ≡ put_op o done →
    m.copies.items ≡ n.copies.items ++ (copy ∷ []) → m.rest.now ≡ more → m.around.items ≡ n.around.items → whole m ≡ whole n
at-item n m o copy more front same copies rest around =
    ap (λ xs. around_with xs (joined_items (items_of m.copies.items) (items_of m.rest.now))) around
    ∙ ap (around_with n.around.items)
    (ap (λ os. joined_items (items_of m.copies.items) (items_of os)) rest
    ∙ ap (λ os. joined_items (items_of os) (items_of more)) copies
    ∙ with-copy n.copies.items more o copy same
    ∙ ap (λ os. joined_items (items_of n.copies.items) (items_of os)) (sym front))

-- a list inside an op
pub at-list : (n m : Copying) (a : Around) (o : Op) (more : List Op) → n.rest.now ≡ o ∷ more →
    enclosed a.enclosing (items_of m.rest.now) ≡ put_op o done → a.copies.items ≡ n.copies.items → a.rest.now ≡ more →
    m.copies.items ≡ [] → m.around.items ≡ n.around.items ++ (a ∷ []) → whole m ≡ whole n
at-list n m a o more front same before after none around =
    ap (λ xs. around_with xs (joined_items (items_of m.copies.items) (items_of m.rest.now))) around
    ∙ ap (λ os. around_with (n.around.items ++ (a ∷ [])) (joined_items (items_of os) (items_of m.rest.now))) none
    ∙ around-push n.around.items a (items_of m.rest.now)
    ∙ ap (around_with n.around.items)
    (ap (λ os. joined_items (items_of os) (joined_items (enclosed a.enclosing (items_of m.rest.now)) (items_of a.rest.now))) before
    ∙ ap (λ is. joined_items (items_of n.copies.items) (joined_items is (items_of a.rest.now))) same
    ∙ ap (λ os. joined_items (items_of n.copies.items) (joined_items (put_op o done) (items_of os))) after
    ∙ ap (joined_items (items_of n.copies.items)) (sym (put-behind o (items_of more)))
    ∙ ap (λ os. joined_items (items_of n.copies.items) (items_of os)) (sym front))

whole-ended : (n : Copying) → n.rest.now ≡ [] → whole n ≡ around_with n.around.items (items_of n.copies.items)
whole-ended n h =
    ap (λ os. around_with n.around.items (joined_items (items_of n.copies.items) (items_of os))) h
    ∙ ap (around_with n.around.items) (joined_items-done (items_of n.copies.items))

-- the end of the outermost list
pub at-last : (n : Copying) → n.rest.now ≡ [] → n.around.items ≡ [] → items_of n.copies.items ≡ whole n
at-last n h none = sym (whole-ended n h ∙ ap (λ outer. around_with outer (items_of n.copies.items)) none)

-- the end of another
pub at-end : (n m : Copying) (outer : List Around) (a : Around) (o : Op) → n.rest.now ≡ [] → n.around.items ≡ outer ++ (a ∷ []) →
    put_op o done ≡ enclosed a.enclosing (items_of n.copies.items) →
    m.copies.items ≡ a.copies.items ++ (o ∷ []) → m.rest.now ≡ a.rest.now → m.around.items ≡ outer → whole m ≡ whole n
at-end n m outer a o h around item copies rest is_around =
    ap (λ xs. around_with xs (joined_items (items_of m.copies.items) (items_of m.rest.now))) is_around
    ∙ ap (around_with outer)
    (ap (λ os. joined_items (items_of os) (items_of m.rest.now)) copies
    ∙ ap (λ os. joined_items (items_of (a.copies.items ++ (o ∷ []))) (items_of os)) rest
    ∙ ap (λ is. joined_items is (items_of a.rest.now)) (items_of-push a.copies.items o)
    ∙ joined_items-grouping (items_of a.copies.items) (put_op o done) (items_of a.rest.now)
    ∙ ap (λ is. joined_items (items_of a.copies.items) (joined_items is (items_of a.rest.now))) item)
    ∙ sym (around-push outer a (items_of n.copies.items))
    ∙ ap (λ xs. around_with xs (items_of n.copies.items)) (sym around)
    ∙ sym (whole-ended n h)
