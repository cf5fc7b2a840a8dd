-- The trees of a `use`, level by level.
use Rattle.std.proofs.Common.{◌≡◌, ◌-◌, ◌<◌, ◌∙◌, ℕ, zero, suc, Bool, false, List, [], ◌∷◌, ◌++◌, map, Some, None, ap, sym, refl, arith}
use Rattle.std.specs.Prelude.{IsTrue, ◌↔◌, String, Vec, string_bytes}
use Rattle.std.specs.Global.{Global}
use Rattle.std.proofs.lemmas.Bool.{false≢true}
use Rattle.std.proofs.lemmas.List.{append-nil, map-append}
use Rattle.small_grammar.specs.Text.{is_empty}
use Rattle.tt_data.specs.Forest.{Forest, empty, leaf, group}
use Rattle.tt_data.specs.declared.leaf.Ident.{Ident}
use Rattle.crate_items.specs.Heads.{braced}
use Rattle.crate_items.specs.ImportEvents.{names_in}
use Rattle.crate_items.specs.Imports.{Use, first_segment, tree_end, tree_imports, tree_step}
use Rattle.crate_items.specs.Items.{Item, import}

-- a level is left
tree_some : (u : Use) (n : ℕ) (path : List (List ℕ)) (f : Forest) → 0 < n
    → tree_imports u n path f ≡ tree_step u (tree_imports u (n - 1)) path f (first_segment f)
unfolding tree_imports
tree_some u zero path f lt = absurd (omega (arith, lt))
tree_some u (suc n) path f lt =
    let e : suc n - 1 ≡ n = omega arith in
    ap (λ (k : ℕ). tree_step u (tree_imports u k) path f (first_segment f)) (sym e)

-- no level is left
tree_none : (u : Use) (path : List (List ℕ)) (f : Forest) → tree_imports u 0 path f ≡ []
unfolding tree_imports
tree_none u path f = refl

pub no_level : (u : Use) (n : ℕ) (path : List (List ℕ)) (f : Forest) (items : List Item) → n ≡ 0
    → items ≡ items ++ map import (tree_imports u n path f)
no_level u n path f items e =
    sym (append-nil items) ∙ ap (λ (l : List _). items ++ map import l) (sym (ap (λ (k : ℕ). tree_imports u k path f) e ∙ tree_none u path f))

-- the path ends here
pub no_segment : (u : Use) (n : ℕ) (path : List (List ℕ)) (f : Forest) → 0 < n
    → first_segment f ≡ None
    → tree_imports u n path f ≡ tree_end u (tree_imports u (n - 1)) path f (braced f)
no_segment u n path f lt e =
    tree_some u n path f lt ∙ ap (tree_step u (tree_imports u (n - 1)) path f) e

-- a name goes on
pub a_segment : (u : Use) (n : ℕ) (path : List (List ℕ)) (f rest : Forest) (name : Ident) → 0 < n
    → first_segment f ≡ Some (name, rest)
    → tree_imports u n path f ≡ tree_imports u (n - 1) (path ++ name.sym ∷ []) rest
a_segment u n path f rest name lt e =
    tree_some u n path f lt ∙ ap (tree_step u (tree_imports u (n - 1)) path f) e

-- the names of a path with one more
pub names_more : (path new : Vec (String Global) Global) (t : String Global) (name : List ℕ)
    → new.items ≡ path.items ++ t ∷ [] → string_bytes t ≡ name
    → names_in new ≡ names_in path ++ name ∷ []
names_more path new t name e f =
    ap (map string_bytes) e ∙ (map-append string_bytes path.items (t ∷ [])
    ∙ ap (λ (x : List ℕ). names_in path ++ x ∷ []) f)

-- trees are left
pub some_tree : (b : Bool) (f : Forest) → (IsTrue b ↔ (f ≡ empty)) → b ≡ false → is_empty f ≡ false
some_tree b empty both e = absurd (false≢true (sym e ∙ both.1 refl))
some_tree b (leaf l f) both e = refl
some_tree b (group d inner f) both e = refl
