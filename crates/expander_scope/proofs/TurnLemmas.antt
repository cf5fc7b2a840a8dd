-- What one turn of the search for calls adds to the output.
use Rattle.std.proofs.Common.{◌≡◌, ℕ, ◌<◌, List, [], ◌∷◌, refl, sym, ap, ◌∙◌, arith, Bool, true, false, true-eqb, inl, inr, if◌then◌else◌}
use Rattle.std.specs.Prelude.{Option, Some, None, ◌⊎◌, ◌&&◌, not}
use Rattle.std.proofs.lemmas.Bool.{and_parts}
use Rattle.tt.specs.Glued.{is_alone}
use Rattle.bridge.specs.Text.{is_char, is_visible}
use Rattle.textual_scope.specs.FromLeft.{AreOfCall}
use Rattle.textual_scope.proofs.LeftLemmas.{call_before}
use Rattle.expander_scope.specs.Turns.{is_bare}
use Rattle.tt_data.proofs.ForestLemmas.{size-joined}
use Rattle.tt.proofs.Steps.{joined-left}
use Rattle.tt_data.specs.Forest.{Forest, leaf, group, joined, size}
use Rattle.tt_data.specs.Walk.{at_leaf, walk}
use Rattle.tt_data.specs.declared.delimiter.Delimiter.{Delimiter}
use Rattle.tt_data.specs.declared.leaf.Ident.{Ident}
use Rattle.tt_data.specs.declared.leaf.Leaf.{Leaf}
use Rattle.tt_data.specs.declared.leaf.Leaf.TheVariants as as_leaf
use Rattle.tt_data.specs.declared.leaf.Punct.{Punct}
use Rattle.tt_data.specs.declared.span.Span.{Span}
use Rattle.expander_model.specs.declared.call.Call.{Call}
use Rattle.expander_model.specs.CallSteps.{bare_call, call_behind_colons, crate_call, call_at, foreign_root, key_at, key_with}
use Rattle.expander_model.specs.Calls.{Path, bare, from_crate, other, call, is_bang_group, is_colons, is_foreign, key_behind, key_of, marked}
use Rattle.small_grammar.specs.Text.{◌>>=◌, ◌>>◌}
use Rattle.expander_model.specs.cfg_options.Conditions.{or_else}
use Rattle.expander_model.specs.Expansion.{World, Outcome, Deeper, CallSite, just, followed_by, grouped, found, looked_up, unbroken, at_call, before_group, whole_call, search_calls}
use Rattle.expander_scope.proofs.CallLemmas.{IsBare, IsBehind, IsOfCrate, is_bare as bare_is, is_behind, is_of_crate, marked_bare, marked_behind, marked_of_crate, no_call}
use Rattle.expander_scope.proofs.MarkLemmas.{unmarked-marked}
use Rattle.expander_scope.proofs.OutcomeLemmas.{IsSearch, followed_assoc}

-- ---- how the marks of a call begin

-- no `::` before the name ends what would be a call
abbrev pub is_open : Path → Bool
is_open (other p q) = false
is_open _ = true

-- no root before the name
abbrev pub names_alone : Path → Bool
names_alone bare = true
names_alone _ = false

bang_alone : (p : Punct) (d : Delimiter) → is_bang_group p d ≡ true → is_char "!" p ≡ true
bang_alone p d h = (and_parts (is_char "!" p) (is_visible d.kind) h).0

colon_not_alone : (p q : Punct) → is_colons p q ≡ true → is_char "!" p ≡ false
colon_not_alone p q h =
    let e : p.char ≡ 58 = true-eqb p.char 58 (sym (and_parts (is_char ":" p) (is_char ":" q && not (is_alone p.spacing)) h).0) in rw e refl

pub record IsCall (f : Forest) (c : Call) (open_path : Bool) : Type 0 where
  pub path : Path
  pub bang : Punct
  pub brackets : Delimiter
  pub marks : marked f ≡ call path c.name bang brackets (marked c.argument) (marked c.rest)
  pub whole : f ≡ joined (whole_call path c.name bang brackets c.argument) c.rest
  pub opening : f ≡ joined (before_group path c.name bang) c.from_group
  pub group_is : c.from_group ≡ group brackets c.argument c.rest
  pub is_so : is_open path ≡ open_path
  pub key : open_path ≡ true → key_of path c.name ≡ key_at f c
  pub of_call : AreOfCall path bang brackets
  pub alone : is_bare f ≡ names_alone path

-- what it is looked up by

test_none : {X : Type 0} (b : Bool) → ◌≡◌ {A = Option X} (b >> None) None
test_none true = refl
test_none false = refl

bare_key : (f : Forest) (c : Call) → IsBare f c → c.name.sym ≡ key_at f c
bare_key f c b =
    sym (ap (λ (o : Option Ident). key_with o c.name) (ap foreign_root b.is ∙ test_none (is_foreign c.name)))

crate_key : (f : Forest) (c : Call) (b : IsOfCrate f c)
    → key_of (from_crate b.crate b.call.first b.call.second) c.name ≡ key_at f c
crate_key f c b =
    by_test (is_foreign b.crate)
    ∙ ap (λ (o : Option Call). key_with (is_foreign b.crate >> (o >>= (λ x. Some b.crate))) c.name) (sym b.found)
    ∙ ap (λ (g : Forest). key_with (foreign_root g) c.name) (sym b.is)
  where
    by_test : (t : Bool) → (if t then key_behind b.crate.sym c.name.sym else c.name.sym) ≡ key_with (t >> Some b.crate) c.name
    by_test true = refl
    by_test false = refl

bare_is_call : (f : Forest) (c : Call) → IsBare f c → IsCall f c true
bare_is_call f c b = record {
  path = bare;
  bang = b.bang;
  brackets = b.brackets;
  marks = marked_bare f c b;
  whole = b.is;
  opening = b.is ∙ ap (λ g. leaf (as_leaf.Ident c.name) (leaf (as_leaf.Punct b.bang) g)) (sym b.group_is);
  group_is = b.group_is;
  is_so = refl;
  key = λ e. bare_key f c b;
  of_call = b.test;
  alone = ap is_bare b.is ∙ bang_alone b.bang b.brackets b.test;
}

behind_is_call : (f : Forest) (c : Call) → IsBehind f c → IsCall f c false
behind_is_call f c b =
    let k : IsCall b.after c true = bare_is_call b.after c b.call in
    let colons : Forest → Forest = λ g. leaf (as_leaf.Punct b.first) (leaf (as_leaf.Punct b.second) g) in
    record {
      path = other b.first b.second;
      bang = b.call.bang;
      brackets = b.call.brackets;
      marks = marked_behind f c b;
      whole = b.is ∙ ap colons b.call.is;
      opening = b.is ∙ ap colons (b.call.is ∙ ap (λ g. leaf (as_leaf.Ident c.name) (leaf (as_leaf.Punct b.call.bang) g)) (sym b.call.group_is));
      group_is = b.call.group_is;
      is_so = refl;
      key = λ e. absurd (cc);
      of_call = (b.call.test, b.colons);
      alone = ap is_bare b.is;
    }

crate_is_call : (f : Forest) (c : Call) → IsOfCrate f c → IsCall f c true
crate_is_call f c b =
    let path : Forest → Forest = λ g. leaf (as_leaf.Ident b.crate) (leaf (as_leaf.Punct b.call.first) (leaf (as_leaf.Punct b.call.second) g)) in
    let is : f ≡ path b.call.after = b.is ∙ ap (leaf (as_leaf.Ident b.crate)) b.call.is in
    record {
      path = from_crate b.crate b.call.first b.call.second;
      bang = b.call.call.bang;
      brackets = b.call.call.brackets;
      marks = marked_of_crate f c b;
      whole = is ∙ ap path b.call.call.is;
      opening = is ∙ ap path (b.call.call.is ∙ ap (λ g. leaf (as_leaf.Ident c.name) (leaf (as_leaf.Punct b.call.call.bang) g)) (sym b.call.call.group_is));
      group_is = b.call.call.group_is;
      is_so = refl;
      key = λ e. crate_key f c b;
      of_call = (b.call.call.test, b.call.colons, b.test);
      alone = ap is_bare (b.is ∙ ap (leaf (as_leaf.Ident b.crate)) b.call.is) ∙ colon_not_alone b.call.first b.call.second b.call.colons;
    }

first_or : (a b : Option Call) (c : Call) → or_else a b ≡ Some c → (a ≡ Some c) ⊎ (b ≡ Some c)
first_or None b c e = inr e
first_or (Some x) b c e = inl e

pub neither : (a b : Option Call) → or_else a b ≡ None → (a ≡ None) × (b ≡ None)
neither None b e = (refl, e)
neither (Some x) b e = cc

pub call_is_call : (f : Forest) (c : Call) → call_at f ≡ Some c → IsCall f c true
call_is_call f c e = elim (first_or (crate_call f) (bare_call f) c e) [ inl h ↦ crate_is_call f c (is_of_crate f c h) | inr h ↦ bare_is_call f c (bare_is f c h) ]

pub colons_is_call : (f : Forest) (c : Call) → call_behind_colons f ≡ Some c → IsCall f c false
colons_is_call f c e = behind_is_call f c (is_behind f c e)

-- the tokens of a call, and the trees behind it
pub joined_call : (f : Forest) (c : Call) (b : Bool) (k : IsCall f c b) → f ≡ call_before c.name k.bang k.brackets c.argument k.path c.rest
joined_call f c b k = k.whole ∙ go k.path
  where
    go : (path : Path) → joined (whole_call path c.name k.bang k.brackets c.argument) c.rest ≡ call_before c.name k.bang k.brackets c.argument path c.rest
    go bare = refl
    go (from_crate root p q) = refl
    go (other p q) = refl

-- its group is visible
pub visible_call : (path : Path) (bang : Punct) (d : Delimiter) → AreOfCall path bang d → is_visible d.kind ≡ true
visible_call bare bang d h = (and_parts (is_char "!" bang) (is_visible d.kind) h).1
visible_call (other p q) bang d h = (and_parts (is_char "!" bang) (is_visible d.kind) h.0).1
visible_call (from_crate root p q) bang d h = (and_parts (is_char "!" bang) (is_visible d.kind) h.0).1

-- ---- what is passed of a call

-- what is passed before its group, or with it
pub call_passed : (f : Forest) (c : Call) → call_at f ≡ Some c → (w : Forest) × (f ≡ joined w c.rest)
call_passed f c e = let k : IsCall f c true = call_is_call f c e in (whole_call k.path c.name k.bang k.brackets c.argument, k.whole)

pub call_opened : (f : Forest) (c : Call) → call_at f ≡ Some c → (w : Forest) × (f ≡ joined w c.from_group)
call_opened f c e = let k : IsCall f c true = call_is_call f c e in (before_group k.path c.name k.bang, k.opening)

pub colons_opened : (f : Forest) (c : Call) → call_behind_colons f ≡ Some c → (w : Forest) × (f ≡ joined w c.from_group)
colons_opened f c e = let k : IsCall f c false = colons_is_call f c e in (before_group k.path c.name k.bang, k.opening)

front-size : (path : Path) (name : Ident) (bang : Punct) → 0 < size (before_group path name bang)
front-size bare name bang = omega arith
front-size (from_crate crate p q) name bang = omega arith
front-size (other p q) name bang = omega arith

group_less : (f : Forest) (c : Call) (b : Bool) → IsCall f c b → size c.from_group < size f
group_less f c b k = omega (arith, ap size k.opening, size-joined (before_group k.path c.name k.bang) c.from_group, front-size k.path c.name k.bang)

pub call_smaller : (f : Forest) (c : Call) → call_at f ≡ Some c → size c.from_group < size f
call_smaller f c e = group_less f c true (call_is_call f c e)

pub colons_smaller : (f : Forest) (c : Call) → call_behind_colons f ≡ Some c → size c.from_group < size f
colons_smaller f c e = group_less f c false (colons_is_call f c e)

pub rest_smaller : (f : Forest) (c : Call) → call_at f ≡ Some c → size c.rest < size f
rest_smaller f c e = omega (arith, call_smaller f c e, ap size (call_is_call f c e).group_is)

-- ---- what the search gives for it

module _ {D : Type 0} (world : World D) (scope : List ℕ → Option D) (deeper : Deeper D) (outer : Option Span) where
  abbrev search : Forest → Outcome D
  search f = search_calls world scope deeper outer (marked f)

  pub is_search : IsSearch outer search
  is_search = record { nothing = refl; at_group = λ d inner rest. refl }

  -- a call's three forms
  abbrev site_of : (f : Forest) (c : Call) (b : Bool) → IsCall f c b → CallSite
  site_of f c b k = record { at = c.name.span; whole = whole_call k.path c.name k.bang k.brackets c.argument; argument = c.argument }

  -- a call as it stands, with its group searched
  abbrev kept_call : (f : Forest) (c : Call) (b : Bool) → IsCall f c b → Outcome D
  kept_call f c b k = followed_by (just outer (walk (before_group k.path c.name k.bang))) (grouped outer k.brackets (search c.argument))

  call_search : (f : Forest) (c : Call) (b : Bool) (k : IsCall f c b)
      → search f ≡ followed_by (at_call world scope deeper outer k.path c.name (site_of f c b k) (kept_call f c b k)) (search c.rest)
  call_search f c b k =
      ap (search_calls world scope deeper outer) k.marks
      ∙ ap (λ a. followed_by
      (at_call world scope deeper outer k.path c.name (record { at = c.name.span; whole = whole_call k.path c.name k.bang k.brackets a; argument = a }) (kept_call f c b k))
      (search c.rest)) (unmarked-marked c.argument)

  -- its group is searched as one that no call has
  kept_search : (f : Forest) (c : Call) (b : Bool) (k : IsCall f c b)
      → followed_by (kept_call f c b k) (search c.rest) ≡ followed_by (just outer (walk (before_group k.path c.name k.bang))) (search c.from_group)
  kept_search f c b k =
      let front : Outcome D = just outer (walk (before_group k.path c.name k.bang)) in
      followed_assoc front (grouped outer k.brackets (search c.argument)) (search c.rest) ∙ ap (λ g. followed_by front (search g)) (sym k.group_is)

  found_call : (path : Path) (name : Ident) (site : CallSite) (o : Outcome D) → is_open path ≡ true
      → at_call world scope deeper outer path name site o
      ≡ found (key_of path name) (scope (key_of path name)) (looked_up world (scope (key_of path name)) deeper outer site o)
  found_call bare name site o e = refl
  found_call (from_crate crate p q) name site o e = refl
  found_call (other p q) name site o e = cc

  other_call : (path : Path) (name : Ident) (site : CallSite) (o : Outcome D) → is_open path ≡ false → at_call world scope deeper outer path name site o ≡ o
  other_call bare name site o e = cc
  other_call (from_crate crate p q) name site o e = cc
  other_call (other p q) name site o e = refl

  found_at : (f : Forest) (c : Call) (k : IsCall f c true) (o : Outcome D)
      → at_call world scope deeper outer k.path c.name (site_of f c true k) o
      ≡ found (key_at f c) (scope (key_at f c)) (looked_up world (scope (key_at f c)) deeper outer (site_of f c true k) o)
  found_at f c k o =
      found_call k.path c.name (site_of f c true k) o k.is_so
      ∙ ap (λ (name : List ℕ). found name (scope name) (looked_up world (scope name) deeper outer (site_of f c true k) o)) (k.key refl)

  -- a call whose name finds nothing is kept, up to its group
  pub unknown_search : (f : Forest) (c : Call) → call_at f ≡ Some c → scope (key_at f c) ≡ None → (w : Forest) → f ≡ joined w c.from_group
      → search f ≡ followed_by (found (key_at f c) None (just outer (walk w))) (search c.from_group)
  unknown_search f c e nothing w passed =
      let k : IsCall f c true = call_is_call f c e in
      call_search f c true k
      ∙ ap (λ o. followed_by o (search c.rest)) (found_at f c k (kept_call f c true k)
      ∙ ap (λ d. found (key_at f c) d (looked_up world d deeper outer (site_of f c true k) (kept_call f c true k))) nothing)
      ∙ ap (found (key_at f c) None) (kept_search f c true k)
      ∙ ap (λ v. followed_by (found (key_at f c) None (just outer (walk v))) (search c.from_group)) (joined-left _ w c.from_group (sym k.opening ∙ passed))

  -- so is what would be a call but for the `::` before it
  pub colons_search : (f : Forest) (c : Call) → call_behind_colons f ≡ Some c → (w : Forest) → f ≡ joined w c.from_group
      → search f ≡ followed_by (just outer (walk w)) (search c.from_group)
  colons_search f c e w passed =
      let k : IsCall f c false = colons_is_call f c e in
      call_search f c false k
      ∙ ap (λ o. followed_by o (search c.rest)) (other_call k.path c.name (site_of f c false k) (kept_call f c false k) k.is_so)
      ∙ kept_search f c false k
      ∙ ap (λ v. followed_by (just outer (walk v)) (search c.from_group)) (joined-left _ w c.from_group (sym k.opening ∙ passed))

  -- a call whose name finds a definition: the definition says what comes of it
  pub known_search : (f : Forest) (c : Call) (d : D) → call_at f ≡ Some c → scope (key_at f c) ≡ Some d → (w : Forest) → f ≡ joined w c.rest
      → search f ≡ followed_by
      (found (key_at f c) (Some d) (unbroken world d (world.broken d) deeper outer (record { at = c.name.span; whole = w; argument = c.argument })))
      (search c.rest)
  known_search f c d e finds w passed =
      let k : IsCall f c true = call_is_call f c e in
      call_search f c true k
      ∙ ap (λ o. followed_by o (search c.rest)) (found_at f c k (kept_call f c true k)
      ∙ ap (λ x. found (key_at f c) x (looked_up world x deeper outer (site_of f c true k) (kept_call f c true k))) finds)
      ∙ ap (λ v. followed_by
      (found (key_at f c) (Some d) (unbroken world d (world.broken d) deeper outer (record { at = c.name.span; whole = v; argument = c.argument })))
      (search c.rest)) (joined-left _ w c.rest (sym k.whole ∙ passed))

  -- a leaf with which no call begins, nor a `::` with one
  pub leaf_search : (f g : Forest) (l : Leaf) → call_at f ≡ None → call_behind_colons f ≡ None → f ≡ leaf l g
      → search f ≡ followed_by (just outer (at_leaf l ∷ [])) (search g)
  leaf_search f g l none_here none_behind is =
      let both = neither (crate_call (leaf l g)) (bare_call (leaf l g)) (ap call_at (sym is) ∙ none_here) in
      ap search is ∙ ap (search_calls world scope deeper outer) (no_call l g both.0 both.1 (ap call_behind_colons (sym is) ∙ none_behind))
