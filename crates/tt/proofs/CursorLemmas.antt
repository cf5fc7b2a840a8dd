-- What the calls of a cursor find at its position, and where they leave it.
use Rattle.std.proofs.Common.{◌≡◌, ◌≢◌, ℕ, zero, suc, ◌+◌, ◌-◌, ◌<◌, ◌≤◌, List, [], ◌∷◌, ◌++◌, length, take, drop, refl, sym, ap, subst, ◌∙◌, arith, append_assoc, append-nil, slice_index_or, slice_get, Option, Some, None, option_map, IsNone, ◌↔◌, inl, inr}
use Rattle.std.proofs.lemmas.List.{get_or-append_right, length-drop}
use Rattle.std.proofs.lemmas.Bool.{cases_lt, true≢false}
use Rattle.tt_data.specs.declared.tree.Subtree.{Subtree}
use Rattle.tt_data.specs.declared.tree.TokenTree.{TokenTree}
use Rattle.tt_data.specs.declared.tree.TokenTree.TheVariants as token
use Rattle.tt_data.specs.declared.leaf.Leaf.{Leaf}
use Rattle.tt_data.specs.Forest.{Forest, empty, leaf, group, joined, size, preorder, forest_of, IsPreorder, head_of}
use Rattle.tt_data.specs.Flat.{length-preorder, forest_of-preorder, IsPreorder-preorder, take-preorder}
use Rattle.tt_data.proofs.ForestLemmas.{joined_assoc, size-joined}
use Rattle.tt.specs.Places.{Around, Place, beginning, first_token, bumped, ended, innermost_head}
use Rattle.tt.specs.CursorTokens.{whole_in, start_in, Stands, place_of, IsPlaced}
use Rattle.token_bytes.specs.Lists.{Reaches, IsTreeOf, BeginsListOf}
use Rattle.tt.proofs.PlaceLemmas.{placed}
use Rattle.tt.proofs.FrameLemmas.{list_in, pre_in, post_in, framed, length-pre_in, ahead, behind, fits, head_in}

-- the place that is held stands
pub stood : (tokens : List TokenTree) (start at : ℕ) (p : Place) → place_of tokens start at ≡ p → IsPlaced tokens start at → Stands tokens start at p
stood tokens start at p same placed = subst (Stands tokens start at) same placed

-- a list that begins at the start is in no group
pub root_of : (around : List Around) → start_in around ≡ 0 → around ≡ []
root_of [] e = refl
root_of (a ∷ outer) e = absurd (omega (arith, e))

-- the first trees of a list stand at its beginning
pub at_beginning : (tokens : List TokenTree) → IsPreorder tokens → Stands tokens 0 0 (beginning (forest_of tokens))
at_beginning tokens whole = record { whole = sym whole; start_is = refl; at_is = refl }

-- the token just before the innermost list is the head of its group
head_in_tokens : (tokens : List TokenTree) (start at : ℕ) (around : List Around) (before after : Forest) (d : TokenTree)
    → Stands tokens start at (record { around = around; before = before; after = after }) → 0 < start
    → Some (slice_index_or tokens (start - 1) d) ≡ option_map token.Subtree (innermost_head (record { around = around; before = before; after = after }))
head_in_tokens tokens start at [] before after d stands some = absurd (omega (arith, some, stands.start_is))
head_in_tokens tokens start at (a ∷ outer) before after d stands some =
    rw (stands.whole, stands.start_is) (ap Some (head_in a outer (joined before after) d))

pub head_token : (tokens : List TokenTree) (start at : ℕ) (p : Place) (d : TokenTree) → Stands tokens start at p → 0 < start
    → Some (slice_index_or tokens (start - 1) d) ≡ option_map token.Subtree (innermost_head p)
head_token tokens start at p d stands some = head_in_tokens tokens start at p.around p.before p.after d stands some

-- a group that goes beyond a place goes beyond a nearer one
closer : (t : TokenTree) (a n b m : ℕ) → m + a ≤ n + b → Reaches t a n → Reaches t b m
closer (token.Leaf l) a n b m h r = r
closer (token.Subtree s) a n b m h r = omega (arith, h, r)

-- no group in a list of trees goes beyond its end
within : (f : Forest) (more : List TokenTree) (j : ℕ) (d : TokenTree) → j < size f
    → Reaches (slice_index_or (preorder f ++ more) j d) (j + 1) (size f) → ⊥
within empty more j d h r = absurd (omega (arith, h))
within (leaf l rest) more zero d h r = r
within (leaf l rest) more (suc j) d h r =
    within rest more j d (omega (arith, h))
    (closer (slice_index_or (preorder rest ++ more) j d) (suc j + 1) (1 + size rest) (j + 1) (size rest) (omega arith) r)
within (group e inner rest) more zero d h r = absurd (omega (arith, r))
within (group e inner rest) more (suc j) d h r =
    let t : TokenTree = slice_index_or (preorder inner ++ (preorder rest ++ more)) j d in
    let beyond : Reaches t (suc j + 1) (1 + (size inner + size rest)) = rw append_assoc at r in
    elim (cases_lt j (size inner)) [
      | inl lt ↦ within inner (preorder rest ++ more) j d lt (closer t (suc j + 1) (1 + (size inner + size rest)) (j + 1) (size inner) (omega arith) beyond)
      | inr ge ↦ let after : t ≡ slice_index_or (preorder rest ++ more) (j - size inner) d =
          get_or-append_right (preorder inner) (preorder rest ++ more) (size inner) j d (length-preorder inner) ge in
          within rest more (j - size inner) d (omega (arith, h, ge))
          (closer
          (slice_index_or (preorder rest ++ more) (j - size inner) d)
          (suc j + 1)
          (1 + (size inner + size rest))
          (j - size inner + 1)
          (size rest)
          (omega (arith, ge))
          (rw after at beyond))
    ]

-- a group that is around the next list has the group of this one inside
is_inside : (tokens : List TokenTree) (a : Around) (outer : List Around) (f : Forest) (d : TokenTree) → tokens ≡ preorder (whole_in (a ∷ outer) f)
    → 0 < start_in outer → Reaches (slice_index_or tokens (start_in outer - 1) d) (start_in outer) (start_in (a ∷ outer) - 1)
is_inside tokens a [] f d all some = absurd (omega (arith, some))
is_inside tokens a (o ∷ outer) f d all some =
    rw (all, head_in o outer (list_in a f) d) (omega (arith, size-joined a.before (group a.delimiter f a.after)))

-- the group around the innermost list is a tree of the next
pub is_tree : (tokens : List TokenTree) (a : Around) (outer : List Around) (f : Forest) → tokens ≡ preorder (whole_in (a ∷ outer) f)
    → IsTreeOf tokens (start_in (a ∷ outer) - 1) (start_in outer)
is_tree tokens a outer f all =
    let base : ℕ = start_in outer in
    let pre : List TokenTree = pre_in outer (list_in a f) in
    let post : List TokenTree = head_of a.delimiter (size f) ∷ (preorder f ++ (preorder a.after ++ post_in outer)) in
    let cut : tokens ≡ pre ++ (preorder a.before ++ post) = all ∙ (framed (a ∷ outer) f ∙ simp append_assoc) in
    record {
      after = omega arith;
      passed = λ k d ge lt r.
          let here : slice_index_or tokens k d ≡ slice_index_or (preorder a.before ++ post) (k - base) d =
          ap (λ ts. slice_index_or ts k d) cut ∙ get_or-append_right pre (preorder a.before ++ post) base k d (length-pre_in outer (list_in a f)) ge in
          within a.before post (k - base) d (omega (arith, ge, lt))
          (closer
          (slice_index_or (preorder a.before ++ post) (k - base) d)
          (k + 1)
          (base + size a.before + 1 - 1)
          (k - base + 1)
          (size a.before)
          (omega (arith, ge))
          (rw here at r));
      inside = λ d some. is_inside tokens a outer f d all some;
    }

-- where the list around the innermost one begins
abbrev pub next_start : List Around → ℕ
next_start [] = 0
next_start (a ∷ outer) = start_in outer

-- the list that the group around the innermost one is a tree of begins there
begins_in : (tokens : List TokenTree) (start at result : ℕ) (around : List Around) (before after : Forest)
    → Stands tokens start at (record { around = around; before = before; after = after }) → around ≢ []
    → BeginsListOf tokens (start - 1) result → result ≡ next_start around
begins_in tokens start at result [] before after stands some begins = absurd (some refl)
begins_in tokens start at result (a ∷ outer) before after stands some begins =
    begins (start_in outer) (rw stands.start_is (is_tree tokens a outer (joined before after) stands.whole))

pub begins_next : (tokens : List TokenTree) (start at result : ℕ) (p : Place) → Stands tokens start at p → p.around ≢ []
    → BeginsListOf tokens (start - 1) result → result ≡ next_start p.around
begins_next tokens start at result p stands some begins = begins_in tokens start at result p.around p.before p.after stands some begins

-- out of the innermost group
left_in : (tokens : List TokenTree) (start at result : ℕ) (around : List Around) (before after : Forest)
    → Stands tokens start at (record { around = around; before = before; after = after }) → around ≢ [] → after ≡ empty
    → result ≡ next_start around → Stands tokens result at (ended (record { around = around; before = before; after = after }))
left_in tokens start at result [] before after stands some done n = absurd (some refl)
left_in tokens start at result (a ∷ outer) before after stands some done n =
    record {
      whole = stands.whole ∙ ap (λ f. preorder (whole_in outer f)) (sym (joined_assoc a.before (group a.delimiter (joined before after) empty) a.after));
      start_is = n;
      at_is =
          omega (
            arith,
            n,
            stands.at_is,
            stands.start_is,
            size-joined a.before (group a.delimiter (joined before after) empty),
            size-joined before after,
            ap size done,
          );
    }

pub left : (tokens : List TokenTree) (start at result : ℕ) (p : Place) → Stands tokens start at p → p.around ≢ [] → p.after ≡ empty
    → result ≡ next_start p.around → Stands tokens result at (ended p)
left tokens start at result p stands some done n = left_in tokens start at result p.around p.before p.after stands some done n

-- past a leaf
past_in : (tokens : List TokenTree) (start at : ℕ) (around : List Around) (before after : Forest) (l : Leaf)
    → Stands tokens start at (record { around = around; before = before; after = after }) → Some (token.Leaf l) ≡ first_token after
    → Stands tokens start (at + 1) (bumped (record { around = around; before = before; after = after }))
past_in tokens start at around before empty l stands e = absurd cc
past_in tokens start at around before (leaf m rest) l stands e =
    record {
      whole = stands.whole ∙ ap (λ f. preorder (whole_in around f)) (sym (joined_assoc before (leaf m empty) rest));
      start_is = stands.start_is;
      at_is = omega (arith, stands.at_is, size-joined before (leaf m empty));
    }
past_in tokens start at around before (group d inner rest) l stands e = absurd cc

pub past_leaf : (tokens : List TokenTree) (start at : ℕ) (p : Place) (l : Leaf) → Stands tokens start at p → Some (token.Leaf l) ≡ first_token p.after
    → Stands tokens start (at + 1) (bumped p)
past_leaf tokens start at p l stands e = past_in tokens start at p.around p.before p.after l stands e

-- into a group
into_in : (tokens : List TokenTree) (start at : ℕ) (around : List Around) (before after : Forest) (s : Subtree)
    → Stands tokens start at (record { around = around; before = before; after = after }) → Some (token.Subtree s) ≡ first_token after
    → Stands tokens (at + 1) (at + 1) (bumped (record { around = around; before = before; after = after }))
into_in tokens start at around before empty s stands e = absurd cc
into_in tokens start at around before (leaf m rest) s stands e = absurd cc
into_in tokens start at around before (group d inner rest) s stands e =
    record { whole = stands.whole; start_is = omega (arith, stands.at_is, stands.start_is); at_is = omega arith }

pub into_group : (tokens : List TokenTree) (start at : ℕ) (p : Place) (s : Subtree) → Stands tokens start at p
    → Some (token.Subtree s) ≡ first_token p.after → Stands tokens (at + 1) (at + 1) (bumped p)
into_group tokens start at p s stands e = into_in tokens start at p.around p.before p.after s stands e

-- in no group all tokens after the place are those of the trees after it
rest_in : (tokens : List TokenTree) (start at : ℕ) (around : List Around) (before after : Forest)
    → Stands tokens start at (record { around = around; before = before; after = after })
    → None ≡ innermost_head (record { around = around; before = before; after = after }) → drop at tokens ≡ preorder after
rest_in tokens start at [] before after stands root =
    ahead tokens start at (record { around = []; before = before; after = after }) stands ∙ append-nil (preorder after)
rest_in tokens start at (a ∷ outer) before after stands root = absurd cc

pub rest_at_root : (tokens : List TokenTree) (start at : ℕ) (p : Place) → Stands tokens start at p → None ≡ innermost_head p
    → drop at tokens ≡ preorder p.after
rest_at_root tokens start at p stands root = rest_in tokens start at p.around p.before p.after stands root

-- in a group as many as the group counts after the place
pub record Rest (tokens : List TokenTree) (start at : ℕ) (p : Place) (s : Subtree) : Type 0 where
  pub begun : at - start ≤ s.len
  pub fits : s.len - (at - start) ≤ length (drop at tokens)
  pub is : take (s.len - (at - start)) (drop at tokens) ≡ preorder p.after

-- the group that a place is in counts the trees before and after it
counts_in : (around : List Around) (before after : Forest) (s : Subtree)
    → Some s ≡ innermost_head (record { around = around; before = before; after = after }) → s.len ≡ size before + size after
counts_in [] before after s e = absurd cc
counts_in (a ∷ outer) before after s e =
    let same : s ≡ record { delimiter = a.delimiter; len = size (joined before after) } = cc in
    ap (λ (t : Subtree). t.len) same ∙ size-joined before after

pub rest_in_group : (tokens : List TokenTree) (start at : ℕ) (p : Place) (s : Subtree) → Stands tokens start at p → Some s ≡ innermost_head p
    → Rest tokens start at p s
rest_in_group tokens start at p s stands e =
    let n : s.len ≡ size p.before + size p.after = counts_in p.around p.before p.after s e in
    let k : s.len - (at - start) ≡ size p.after = omega (arith, n, stands.at_is) in
    record {
      begun = omega (arith, n, stands.at_is);
      fits = omega (arith, k, length-drop at tokens, fits tokens start at p stands);
      is = rw (k, ahead tokens start at p stands) (take-preorder p.after (post_in p.around));
    }

-- in no group the tokens before the place are those of the trees before it
crossed_in : (tokens : List TokenTree) (start at : ℕ) (around : List Around) (before after : Forest)
    → Stands tokens start at (record { around = around; before = before; after = after }) → around ≡ [] → take at tokens ≡ preorder before
crossed_in tokens start at [] before after stands root = behind tokens start at (record { around = []; before = before; after = after }) stands
crossed_in tokens start at (a ∷ outer) before after stands root = absurd cc

pub crossed_at_root : (tokens : List TokenTree) (start at : ℕ) (p : Place) → Stands tokens start at p → p.around ≡ []
    → take at tokens ≡ preorder p.before
crossed_at_root tokens start at p stands root = crossed_in tokens start at p.around p.before p.after stands root

-- the first token of a flat list is that of its trees
first_of : (f : Forest) → slice_get (preorder f) 0 ≡ first_token f
first_of empty = refl
first_of (leaf l rest) = refl
first_of (group d inner rest) = refl

pub first_is : (tokens : List TokenTree) → IsPreorder tokens → slice_get tokens 0 ≡ first_token (forest_of tokens)
first_is tokens whole = ap (λ ts. slice_get ts 0) (sym whole) ∙ first_of (forest_of tokens)

-- a token that was read just before the innermost list
pub head_read : (tokens : List TokenTree) (start at i : ℕ) (p : Place) (t : TokenTree) → Stands tokens start at p → i ≡ start - 1 → 0 < start
    → t ≡ slice_index_or tokens i t → Some t ≡ option_map token.Subtree (innermost_head p)
head_read tokens start at i p t stands n some read = ap Some (rw n at read) ∙ head_token tokens start at p t stands some

-- what a list of tokens shows, once it is known to be that of some trees
pub shows : (tokens : List TokenTree) (f : Forest) → tokens ≡ preorder f → IsPreorder tokens × (forest_of tokens ≡ f)
shows tokens f all = (rw all (IsPreorder-preorder f), ap forest_of all ∙ forest_of-preorder f)

-- trees without a first token are none
pub none_first : (f : Forest) → None ≡ first_token f → f ≡ empty
none_first empty e = refl
none_first (leaf l rest) e = absurd cc
none_first (group d inner rest) e = absurd cc

-- and exactly they
has_no_first : (f : Forest) → IsNone (first_token f) ↔ (f ≡ empty)
has_no_first empty = (λ _. refl, λ _. refl)
has_no_first (leaf l rest) = (λ e. absurd (true≢false e), λ e. absurd cc)
has_no_first (group d inner rest) = (λ e. absurd (true≢false e), λ e. absurd cc)

pub ends : (o : Option TokenTree) (f : Forest) → o ≡ first_token f → IsNone o ↔ (f ≡ empty)
ends o f e = rw e (has_no_first f)
