-- Rooted trees at other spans, and how they are built.
use Rattle.std.proofs.Common.{◌≡◌, ℕ, ◌+◌, length, Bool, true, false, List, [], ◌∷◌, refl, ap, sym, ◌∙◌, arith}
use Rattle.std.specs.Prelude.{◌&&◌, if◌then◌else◌}
use Prim.Native.String.{String}
use Rattle.tt.specs.Building.{Building, Opened, closed, closed_in, extended, opened}
use Rattle.tt_data.proofs.ForestLemmas.{joined_assoc}
use Rattle.tt_data.specs.Flat.{joined-empty}
use Rattle.tt_data.specs.Forest.{Forest, empty, leaf, group, joined, map_spans, size}
use Rattle.tt_data.specs.Spans.{delimiter_with, leaf_with}
use Rattle.tt_data.specs.declared.delimiter.Delimiter.{Delimiter}
use Rattle.tt_data.specs.declared.delimiter.DelimiterKind.{DelimiterKind}
use Rattle.tt_data.specs.declared.leaf.Leaf.{Leaf}
use Rattle.tt_data.specs.declared.leaf.Leaf.TheVariants as as_leaf
use Rattle.tt_data.specs.declared.span.Span.{Span}
use Rattle.bridge.specs.Text.{is_punct}
use Rattle.expander_model.specs.declared.tree_walk.Around.{Around}
use Rattle.expander_sources.specs.Builds.{PutsRooted}
use Rattle.expander_sources.specs.Rooting.{is_crate, root_at, rooted}

-- ---- other spans

punct_with : (c : String) (f : Span → Span) (l : Leaf) → is_punct c (leaf_with f l) ≡ is_punct c l
punct_with c f (as_leaf.Ident i) = refl
punct_with c f (as_leaf.Punct p) = refl
punct_with c f (as_leaf.Literal l) = refl

crate_with : (f : Span → Span) (l : Leaf) → is_crate (leaf_with f l) ≡ is_crate l
crate_with f (as_leaf.Ident i) = refl
crate_with f (as_leaf.Punct p) = refl
crate_with f (as_leaf.Literal l) = refl

root_with : (root : List ℕ) (f : Span → Span) (l : Leaf) → root_at root (leaf_with f l) ≡ leaf_with f (root_at root l)
root_with root f (as_leaf.Ident i) = refl
root_with root f (as_leaf.Punct p) = refl
root_with root f (as_leaf.Literal l) = refl

-- one of three forms of two leaves and those behind
abbrev choice : Bool → Bool → Forest → Forest → Forest → Forest
choice a b x y z = if a then x else if b then y else z

choice_with : (f : Span → Span) (a b : Bool) (x y z : Forest) → choice a b (map_spans f x) (map_spans f y) (map_spans f z) ≡ map_spans f (choice a b x y z)
choice_with f true b x y z = refl
choice_with f false true x y z = refl
choice_with f false false x y z = refl

module _ (root : List ℕ) where
  pub rooted-with : (f : Span → Span) (g : Forest) → rooted root (map_spans f g) ≡ map_spans f (rooted root g)
  rooted-with f empty = refl
  rooted-with f (group d inner rest) =
      ap (λ (x : Forest). group (delimiter_with f d) x (rooted root (map_spans f rest))) (rooted-with f inner)
      ∙ ap (group (delimiter_with f d) (map_spans f (rooted root inner))) (rooted-with f rest)
  rooted-with f (leaf l empty) = refl
  rooted-with f (leaf l (group d inner rest)) = ap (leaf (leaf_with f l)) (rooted-with f (group d inner rest))
  rooted-with f (leaf l (leaf m rest)) =
      ap (λ (b : Bool). choice (b && is_crate (leaf_with f m)) (b && is_punct "$" (leaf_with f m)) x y z) (punct_with "$" f l)
      ∙ ap (λ (b : Bool). choice (is_punct "$" l && b) (is_punct "$" l && is_punct "$" (leaf_with f m)) x y z) (crate_with f m)
      ∙ ap (λ (b : Bool). choice (is_punct "$" l && is_crate m) (is_punct "$" l && b) x y z) (punct_with "$" f m)
      ∙ ap (λ (u : Leaf). choice a b (leaf u (rooted root (map_spans f rest))) y z) (root_with root f l)
      ∙ ap (λ (r : Forest). choice a b (leaf (leaf_with f (root_at root l)) r) (leaf (leaf_with f l) (leaf (leaf_with f m) r)) z) (rooted-with f rest)
      ∙ ap (λ (r : Forest). choice a b (leaf (leaf_with f (root_at root l)) (map_spans f (rooted root rest))) (leaf (leaf_with f l) (leaf (leaf_with f m) (map_spans f (rooted root rest)))) (leaf (leaf_with f l) r)) (rooted-with f (leaf m rest))
      ∙ choice_with f a b (leaf (root_at root l) (rooted root rest)) (leaf l (leaf m (rooted root rest))) (leaf l (rooted root (leaf m rest)))
    where
      a : Bool
      a = is_punct "$" l && is_crate m

      b : Bool
      b = is_punct "$" l && is_punct "$" m

      x : Forest
      x = leaf (root_at root (leaf_with f l)) (rooted root (map_spans f rest))

      y : Forest
      y = leaf (leaf_with f l) (leaf (leaf_with f m) (rooted root (map_spans f rest)))

      z : Forest
      z = leaf (leaf_with f l) (rooted root (map_spans f (leaf m rest)))

  -- ---- one leaf, with what stands with it

  -- a leaf that is no `$` stands for itself
  pub puts_other : (l : Leaf) (rest : Forest) (b : Building) → is_punct "$" l ≡ false → PutsRooted root (leaf l rest) rest b (extended b (leaf l empty))
  puts_other l rest b e = record { front = leaf l empty; are = go l rest e; added = refl; shorter = omega (arith) }
    where
      go : (l : Leaf) (rest : Forest) → is_punct "$" l ≡ false → rooted root (leaf l rest) ≡ leaf l (rooted root rest)
      go l empty e = refl
      go l (group d inner rest) e = refl
      go l (leaf m rest) e = rw e refl

  -- nor does one with no leaf behind it
  pub puts_last : (l : Leaf) (d : Delimiter) (inner rest : Forest) (b : Building) → PutsRooted root (leaf l (group d inner rest)) (group d inner rest) b (extended b (leaf l empty))
  puts_last l d inner rest b = record { front = leaf l empty; are = refl; added = refl; shorter = omega (arith) }

  pub puts_end : (l : Leaf) (b : Building) → PutsRooted root (leaf l empty) empty b (extended b (leaf l empty))
  puts_end l b = record { front = leaf l empty; are = refl; added = refl; shorter = omega (arith) }

  -- a `$crate`
  pub puts_root : (l m : Leaf) (rest : Forest) (b : Building) → is_punct "$" l ≡ true → is_crate m ≡ true
      → PutsRooted root (leaf l (leaf m rest)) rest b (extended b (leaf (root_at root l) empty))
  puts_root l m rest b e k = record { front = leaf (root_at root l) empty; are = rw (e, k) refl; added = refl; shorter = omega (arith) }

  -- a `$$`
  pub puts_two : (l m : Leaf) (rest : Forest) (b : Building) → is_punct "$" l ≡ true → is_crate m ≡ false → is_punct "$" m ≡ true
      → PutsRooted root (leaf l (leaf m rest)) rest b (extended (extended b (leaf l empty)) (leaf m empty))
  puts_two l m rest b e k h = record {
    front = leaf l (leaf m empty);
    are = rw (e, k, h) refl;
    added = λ i. record b { here = joined_assoc b.here (leaf l empty) (leaf m empty) i };
    shorter = omega (arith);
  }

  -- a `$` before another leaf
  pub puts_alone : (l m : Leaf) (rest : Forest) (b : Building) → is_crate m ≡ false → is_punct "$" m ≡ false
      → PutsRooted root (leaf l (leaf m rest)) (leaf m rest) b (extended b (leaf l empty))
  puts_alone l m rest b k h = record { front = leaf l empty; are = go (is_punct "$" l); added = refl; shorter = omega (arith) }
    where
      go : (t : Bool) → (if t && is_crate m then leaf (root_at root l) (rooted root rest)
          else if t && is_punct "$" m then leaf l (leaf m (rooted root rest)) else leaf l (rooted root (leaf m rest))) ≡ leaf l (rooted root (leaf m rest))
      go true = rw (k, h) refl
      go false = refl

  -- ---- all trees, group by group

  -- the tree that is built once what is left of each group was added
  abbrev pub finished : Building → Forest → List Around → Building
  finished b here [] = extended b (rooted root here)
  finished b here (a ∷ around) = finished (closed (extended b (rooted root here)) a.close_span) a.behind around

  -- what is added to a list, and then more
  extended_twice : (b : Building) (f g : Forest) → extended (extended b f) g ≡ extended b (joined f g)
  extended_twice b f g = λ i. record b { here = joined_assoc b.here f g i }

  -- more was added
  pub finished_put : (b c : Building) (here left : Forest) (around : List Around) → PutsRooted root here left b c → finished b here around ≡ finished c left around
  finished_put b c here left around puts = go around is
    where
      is : extended b (rooted root here) ≡ extended c (rooted root left)
      is =
          ap (extended b) puts.are ∙ sym (extended_twice b puts.front (rooted root left))
          ∙ ap (λ (x : Building). extended x (rooted root left)) (sym puts.added)

      go : (around : List Around) → extended b (rooted root here) ≡ extended c (rooted root left) → finished b here around ≡ finished c left around
      go [] e = e
      go (a ∷ around) e = ap (λ (x : Building). finished (closed x a.close_span) a.behind around) e

  -- a group was entered
  pub finished_open : (b : Building) (d : Delimiter) (inner rest : Forest) (around : List Around)
      → finished b (group d inner rest) around
      ≡ finished (opened b d.kind d.open_span) inner (record { kind = d.kind; close_span = d.close_span; behind = rest } ∷ around)
  finished_open b d inner rest around = go around is
    where
      is : extended b (rooted root (group d inner rest)) ≡ extended (closed (extended (opened b d.kind d.open_span) (rooted root inner)) d.close_span) (rooted root rest)
      is = λ i. record b { here = sym (joined_assoc b.here (group d (rooted root inner) empty) (rooted root rest)) i }

      go : (around : List Around) → extended b (rooted root (group d inner rest)) ≡ extended (closed (extended (opened b d.kind d.open_span) (rooted root inner)) d.close_span) (rooted root rest)
          → finished b (group d inner rest) around
          ≡ finished (closed (extended (opened b d.kind d.open_span) (rooted root inner)) d.close_span) rest around
      go [] e = e
      go (a ∷ around) e = ap (λ (x : Building). finished (closed x a.close_span) a.behind around) e

  -- a group was left
  pub finished_close : (b : Building) (a : Around) (around : List Around) → finished b empty (a ∷ around) ≡ finished (closed b a.close_span) a.behind around
  finished_close b a around =
      ap (λ (x : Building). finished (closed x a.close_span) a.behind around) (λ i. record b { here = joined-empty b.here i })

  -- nothing is left
  pub finished_all : (b : Building) → finished b empty [] ≡ b
  finished_all b = λ i. record b { here = joined-empty b.here i }

-- how much is left of a traversal: each event makes it less
abbrev pub work_around : List Around → ℕ
work_around [] = 0
work_around (a ∷ around) = 1 + (size a.behind + size a.behind) + work_around around

abbrev pub work_left : Forest → List Around → ℕ
work_left here around = size here + size here + work_around around

-- ---- events

module _ (root : List ℕ) (target : Building) (n : ℕ) where
  -- what is left will make the target, and the open groups are those around
  abbrev pub Will : Building → Forest → List Around → Type 0
  Will b here around = (finished root b here around ≡ target) × (length b.groups ≡ n + length around)

  pub will_leaf : (b c : Building) (here rest left : Forest) (l : Leaf) (around later : List Around) → Will b here around
      → here ≡ leaf l rest → later ≡ around → PutsRooted root (leaf l rest) left b c → Will c left later
  will_leaf b c here rest left l around later h first same puts = (
    ap (finished root c left) same ∙ sym (finished_put root b c (leaf l rest) left around puts)
        ∙ ap (λ (x : Forest). finished root b x around) (sym first) ∙ h.0,
    ap (λ (x : Building). length x.groups) puts.added ∙ h.1 ∙ ap (λ (xs : List Around). n + length xs) (sym same),
  )

  pub will_open : (b c : Building) (here inner behind : Forest) (d : Delimiter) (kind : DelimiterKind) (span : Span) (around later : List Around)
      → Will b here around → here ≡ group d inner behind → d.kind ≡ kind → d.open_span ≡ span
      → later ≡ record { kind = kind; close_span = d.close_span; behind = behind } ∷ around → c ≡ opened b kind span → Will c inner later
  will_open b c here inner behind d kind span around later h first is_kind is_span same is = (
    ap (finished root c inner) same
        ∙ ap (λ (x : Building). finished root x inner (record { kind = kind; close_span = d.close_span; behind = behind } ∷ around)) is
        ∙ ap (λ (k : DelimiterKind). finished root (opened b k span) inner (record { kind = k; close_span = d.close_span; behind = behind } ∷ around)) (sym is_kind)
        ∙ ap (λ (s : Span). finished root (opened b d.kind s) inner (record { kind = d.kind; close_span = d.close_span; behind = behind } ∷ around)) (sym is_span)
        ∙ sym (finished_open root b d inner behind around)
        ∙ ap (λ (x : Forest). finished root b x around) (sym first) ∙ h.0,
    omega (arith, ap (λ (x : Building). length x.groups) is, h.1, ap (λ (xs : List Around). length xs) same),
  )

  closed_count : (b : Building) (gs : List Opened) (span : Span) (k : ℕ) → length gs ≡ 1 + k → length (closed_in gs b span).groups ≡ k
  closed_count b [] span k e = absurd (omega (arith, e))
  closed_count b (o ∷ outer) span k e = omega (arith, e)

  pub will_close : (b c : Building) (here behind : Forest) (kind : DelimiterKind) (span : Span) (around later : List Around)
      → Will b here around → here ≡ empty → around ≡ record { kind = kind; close_span = span; behind = behind } ∷ later → c ≡ closed b span → Will c behind later
  will_close b c here behind kind span around later h none same is = (
    ap (λ (x : Building). finished root x behind later) is
        ∙ sym (finished_close root b (record { kind = kind; close_span = span; behind = behind }) later)
        ∙ ap (finished root b empty) (sym same) ∙ ap (λ (x : Forest). finished root b x around) (sym none) ∙ h.0,
    ap (λ (x : Building). length x.groups) is
        ∙ closed_count b b.groups span (n + length later) (omega (arith, h.1, ap (λ (xs : List Around). length xs) same)),
  )

  pub will_end : (b : Building) (here : Forest) (around : List Around) → Will b here around → here ≡ empty → around ≡ [] → b ≡ target
  will_end b here around h none same =
      sym (finished_all root b) ∙ ap (finished root b empty) (sym same) ∙ ap (λ (x : Forest). finished root b x around) (sym none) ∙ h.0
