-- One more piece of a text, evaluated over a cache.
use Rattle.std.proofs.Common.{◌≡◌, ◌↔◌, ℕ, ◌+◌, ◌≤◌, Global, Bool, true, false, cond, List, [], ◌∷◌, ◌++◌, append_assoc, append-nil, map, length, Option, Some, None, refl, ap, sym, subst, ◌∙◌, arith}
use Rattle.std.specs.Prelude.{All, filter, filter_map, flat_map, is_some, not, option_map, unwrap_or}
use Rattle.std.specs.List.{cons_option, list_any}
use Rattle.std.specs.Rc.{rc_value}
use Rattle.std.specs.declared.rc.Rc.{Rc}
use Rattle.std.proofs.lemmas.List.{map-append}
use Rattle.std.proofs.lemmas.List.Elements.{All-cons, All-head, All-nil, All-tail}
use Rattle.mbe.specs.Grammar.{Grammar}
use Rattle.tt.specs.Tops.{Top}
use Rattle.tt_data.specs.Forest.{Forest}
use Rattle.tt_data.specs.declared.edition.Edition.{Edition}
use Rattle.expander_session.specs.Agreement.{scope_of}
use Rattle.expander_scope.specs.Interning.{AllRead, AreInTable, known_in, numbers_in}
use Rattle.expander_model.specs.HashedTrees.{own_top, tree_hash}
use Rattle.expander_model.specs.EqualTrees.{same_forest}
use Rattle.expander_model.specs.Definitions.{Definition, definition_of}
use Rattle.cfg_options.specs.Conditions.{or_else}
use Rattle.expander_scope.specs.Editions.{IsRead}
use Rattle.expander_model.specs.Expansion.{Outcome, World}
use Rattle.expander_model.specs.Held.{IsMet, Kept, Met, Numbered, first_place, kept, kept_of, met, met_of, numbered_scope, numbered_world, present, unnumbered, with_met}
use Rattle.expander_model.specs.DefinitionTrees.{definition_trees}
use Rattle.expander_session.specs.CachedOutputs.{Holds}
use Rattle.expander_scope.specs.MacroDefs.{definition_in}
use Rattle.expander_session.specs.Layered.{layers}
use Rattle.expander_model.specs.Meaning.{Layers, member_faults, output_of}
use Rattle.expander_session.specs.Caches.{IsCache, IsRight, piece_of, trees_of}
use Rattle.expander_scope.specs.ScopeTable.{expanded_under, AreRead, HasMet, scope_in}
use Rattle.expander_scope.specs.DefinitionTexts.{HasNumbered, inner_of}
use Rattle.expander_scope.specs.DefinitionIds.{AreNumbered, AreNumbers, by_either, number_by, numbered_by}
use Rattle.expander_model.specs.OtherPlaces.{LooksAtNoPlace}
use Rattle.expander_session.specs.Emitting.{HasOutput, PutsOut}
use Rattle.expander_scope.specs.Outcomes.{numbered_of_known, parts_of}
use Rattle.expander_model.specs.Pieces.{first_start, relative}
use Rattle.expander_model.specs.Limits.{expanded}
use Rattle.expander_session.specs.AbsoluteSpans.{resolved_faults, resolved_steps, told_of}
use Rattle.expander_session.specs.Memos.{finds_of, tree_of}
use Rattle.expander_session.specs.Reuse.{HeldPiece, IsHeld, matches}
use Rattle.expander_session.specs.Evaluating.{Grows, HasTaken, IsEvaluated}
use Rattle.expander_session.specs.TextTurn.{held_of, is_unmatched}
use Rattle.expander_model.specs.World.{world}
use Rattle.expander_model.specs.declared.dialect.Dialect.{Dialect}
use Rattle.expander_session.specs.declared.cache.Cache.{Cache}
use Rattle.expander_scope.specs.declared.scope.Scope.{Scope}
use Rattle.expander_scope.specs.declared.macro_def.MacroDef.{MacroDef}
use Rattle.expander_session.specs.declared.memo.Memo.{Memo}
use Rattle.expander_session.specs.declared.evaluate.Evaluated.{Evaluated}
use Rattle.expander_session.specs.declared.evaluate.Evaluation.{Evaluation}
use Rattle.expander_session.proofs.ExpandedLemmas.{expanded_by_finds}
use Rattle.expander_session.proofs.KeptLemmas.{more_held}
use Rattle.expander_session.proofs.AbsoluteSpanLemmas.{kept_faults, kept_steps, met_faults}
use Rattle.expander_session.proofs.ReuseLemmas.{fresh_is_held, met_scope}
use Rattle.expander_model.proofs.DefinitionPlaceLemmas.{definition_piece}

-- ---- one more at the end of a list

filter_map_more : {X Y : Type 0} (f : X → Option Y) (xs : List X) (x : X) → filter_map f (xs ++ x ∷ []) ≡ filter_map f xs ++ filter_map f (x ∷ [])
filter_map_more f [] x = refl
filter_map_more {X} {Y} f (z ∷ xs) x = go (f z) (filter_map_more f xs x)
  where
    go : (o : Option Y) → filter_map f (xs ++ x ∷ []) ≡ filter_map f xs ++ filter_map f (x ∷ [])
        → cons_option o (filter_map f (xs ++ x ∷ [])) ≡ cons_option o (filter_map f xs) ++ filter_map f (x ∷ [])
    go (Some y) later = ap (λ (ys : List Y). y ∷ ys) later
    go None later = later

flat_more : {X Y : Type 0} (f : X → List Y) (xs : List X) (x : X) → flat_map f (xs ++ x ∷ []) ≡ flat_map f xs ++ f x
flat_more f [] x = append-nil (f x)
flat_more f (z ∷ xs) x = ap (λ l. f z ++ l) (flat_more f xs x) ∙ sym (append_assoc (f z) (flat_map f xs) (f x))

counted_more : {X : Type 0} (p : X → Bool) (xs : List X) (x : X) → length (filter p (xs ++ x ∷ [])) ≡ length (filter p xs) + cond (p x) 1 0
counted_more p [] x = go (p x)
  where
    go : (b : Bool) → length (cond b (x ∷ []) []) ≡ 0 + cond b 1 0
    go true = refl
    go false = refl
counted_more p (z ∷ xs) x = go (p z) (counted_more p xs x)
  where
    go : (b : Bool) → length (filter p (xs ++ x ∷ [])) ≡ length (filter p xs) + cond (p x) 1 0
        → length (cond b (z ∷ filter p (xs ++ x ∷ [])) (filter p (xs ++ x ∷ []))) ≡ length (cond b (z ∷ filter p xs) (filter p xs)) + cond (p x) 1 0
    go true later = omega (arith, later)
    go false later = later

all_more : {X : Type 0} (P : X → Type 0) (xs : List X) (x : X) → All P xs → P x → All P (xs ++ x ∷ [])
all_more P [] x h p = All-cons P x [] p (All-nil P)
all_more P (z ∷ xs) x h p = All-cons P z (xs ++ x ∷ []) (All-head P z xs h) (all_more P xs x (All-tail P z xs h) p)

-- the members of one more piece
flat_present : {Y : Type 0} (f : _ → List Y) (done : List Kept) (k : Kept) → flat_map f (map present (done ++ k ∷ [])) ≡ flat_map f (map present done) ++ f (present k)
flat_present f done k = ap (flat_map f) (map-append present done (k ∷ [])) ∙ flat_more f (map present done) (present k)

-- ---- where more trees have numbers

abbrev pub MoreNumbers : (Forest → Option ℕ) → (Forest → Option ℕ) → Type 0
MoreNumbers one two = (t : Forest) (n : ℕ) → one t ≡ Some n → two t ≡ Some n

pub known_grows : (one two : Forest → Option ℕ) → MoreNumbers one two → (before : List Met) → All (IsMet (numbered_by one)) before → All (IsMet (numbered_by two)) before
known_grows one two more [] h = All-nil (IsMet (numbered_by two))
known_grows one two more (m ∷ before) h =
    let here : IsMet (numbered_by one) m = All-head (IsMet (numbered_by one)) m before h in
    All-cons (IsMet (numbered_by two)) m before (record { tree = here.tree; entry = more here.tree m.numbered.number here.entry; definition = here.definition })
    (known_grows one two more before (All-tail (IsMet (numbered_by one)) m before h))

right_grows : (w : World Definition) (depth : ℕ) (one two : Forest → Option ℕ) → MoreNumbers one two → (qs : List (Rc Memo Global))
    → All (λ q. IsRight w depth one (rc_value q)) qs → All (λ q. IsRight w depth two (rc_value q)) qs
right_grows w depth one two more [] h = All-nil (λ q. IsRight w depth two (rc_value q))
right_grows w depth one two more (q ∷ qs) h =
    let here : IsRight w depth one (rc_value q) = All-head (λ x. IsRight w depth one (rc_value x)) q qs h in
    let piece : HeldPiece = piece_of w depth (rc_value q) in
    let held : IsHeld w depth (numbered_by two) piece =
    All-head (IsHeld w depth (numbered_by two)) piece []
    (more_held w depth (numbered_by one) (numbered_by two) more (piece ∷ []) (All-cons (IsHeld w depth (numbered_by one)) piece [] here.held (All-nil (IsHeld w depth (numbered_by one))))) in
    All-cons (λ x. IsRight w depth two (rc_value x)) q qs (record { top = here.top; parts = here.parts; held = held; plain = here.plain })
    (right_grows w depth one two more qs (All-tail (λ x. IsRight w depth one (rc_value x)) q qs h))

-- the numbers of both texts
module _ (given : ℕ) (old : Forest → Option ℕ) (known trees : List Forest) (now_given : ℕ) (now : Forest → Option ℕ) (are : AreNumbered given old known trees now_given now) where
  pub now_stays : MoreNumbers now (by_either now old)
  now_stays t n e = ap (λ o. or_else o (old t)) e

  pub old_stays : MoreNumbers old (by_either now old)
  old_stays t n e = go (now t) refl
    where
      go : (o : Option ℕ) → now t ≡ o → or_else o (old t) ≡ Some n
      go None f = e
      go (Some m) f = ap Some (are.stay t m n f e)

-- ---- a plain piece

module _ (equal : (f g : Forest) → (same_forest f g ≡ true) ↔ (f ≡ g)) (w : World Definition) (depth : ℕ) (numbers : Forest → Option ℕ) (before : List Met)
    (known : All (IsMet (numbered_by numbers)) before) (tree : Forest) (q : Memo) (top : tree_of q ≡ own_top tree)
    (parts : Holds q (parts_of (expanded (numbered_world w) unnumbered (numbered_scope w.dialect before) depth tree))) where
  trees_same : (tree_of q).inner ≡ tree
  trees_same = ap (λ (t : Top). t.inner) top

  -- it is what its expansion is
  pub piece_found : piece_of w depth q ≡ record { tree = tree; outcome = expanded (numbered_world w) unnumbered (numbered_scope w.dialect before) depth tree }
  piece_found =
      ap (λ (t : Forest). record { tree = t; outcome = expanded (numbered_world w) unnumbered (scope_of (finds_of q)) depth t }) trees_same
      ∙ ap (λ (fs : List (List ℕ × Option Numbered)). record { tree = tree; outcome = expanded (numbered_world w) unnumbered (scope_of fs) depth tree }) parts.finds
      ∙ ap (λ (o : Outcome Numbered). record { tree = tree; outcome = o }) (expanded_by_finds (numbered_world w) unnumbered (numbered_scope w.dialect before) depth tree)

  pub piece_right : is_some (definition_of tree) ≡ false → IsRight w depth numbers q
  piece_right plain = record {
    top = ap (λ (t : Top). t.delimiter) top;
    parts = subst (λ (p : HeldPiece). Holds q (parts_of p.outcome)) (sym piece_found) parts;
    held = subst (IsHeld w depth (numbered_by numbers)) (sym piece_found)
        (fresh_is_held equal w depth (numbered_by numbers) (numbered_scope w.dialect before) (met_scope equal w.dialect (numbered_by numbers) before known) tree);
    plain = ap (λ (t : Forest). is_some (definition_of t)) trees_same ∙ plain;
  }

-- what follows from what is held of a piece for its tree, for a tree that it has
pub for_tree : (grammar : Grammar) (scope : Scope) (dialect : Dialect) (depth : ℕ) (r : Forest) (p : Memo) (P : Forest → Type 0)
    → tree_of p ≡ own_top r → Holds p (parts_of (expanded_under grammar scope dialect depth r))
    → (Holds p (parts_of (expanded_under grammar scope dialect depth (tree_of p).inner)) → P (tree_of p).inner) → P r
for_tree grammar scope dialect depth r p P top holds gives =
    let here : (tree_of p).inner ≡ r = ap (λ (t : Top). t.inner) top in
    subst P here (gives (subst (λ (f : Forest). Holds p (parts_of (expanded_under grammar scope dialect depth f))) (sym here) holds))

-- ---- one more piece

unwrapped : (o : Option Definition) (d x : Definition) → o ≡ Some d → unwrap_or o x ≡ d
unwrapped o d x e = ap (λ (y : Option Definition). unwrap_or y x) e

definition_is : (f : Forest) (d : Definition) → definition_of f ≡ Some d → definition_in f ≡ d
definition_is f d e = unwrapped (definition_of f) d _ e

-- the piece of a definition is the tree that it is read from
pub piece_in : (f : Forest) → (definition_in f).piece ≡ f
piece_in f = go (definition_of f) refl
  where
    go : (o : Option Definition) → definition_of f ≡ o → (definition_in f).piece ≡ f
    go None e = rw e refl
    go (Some d) e = ap (λ (x : Definition). x.piece) (definition_is f d e) ∙ definition_piece f d e

module _ (grammar : Grammar) (edition : Edition) (dialect : Dialect) (depth : ℕ) (old : Cache) (piece : Forest) (now next : Evaluation) where
  abbrev W : World Definition
  W = world grammar edition dialect

  abbrev L : Layers
  L = layers grammar edition dialect

  abbrev held : List HeldPiece
  held = map (λ q. piece_of W depth (rc_value q)) old.plains.items

  abbrev Has : List Met → List Forest → List Kept → Evaluation → Type 0
  Has = HasTaken W edition depth old L

  abbrev r : Forest
  r = relative piece

  abbrev start : ℕ
  start = first_start piece

  -- what is taken for a tree, by the numbers of both texts
  pub parts_taken : (t : Top) (q : Memo) → t ≡ own_top r
      → ((given : ℕ) (numbers : Forest → Option ℕ) (before : List Met) → AreNumbers given numbers → MoreNumbers (numbers_in old.by_tree) numbers
      → All (λ q. IsRight W depth numbers (rc_value q)) now.taken.plains.items
      → scope_in now.scope ≡ numbered_scope dialect before → All (IsMet (numbered_by numbers)) before
      → Holds q (parts_of (expanded (numbered_world W) unnumbered (scope_in now.scope) depth t.inner)))
      → (before : List Met) (trees : List Forest) (done : List Kept) → Has before trees done now
      → Holds q (parts_of (expanded (numbered_world W) unnumbered (scope_in now.scope) depth r))
  parts_taken t q tree_is outcome before trees done has =
      let are = has.taken.numbers.numbers in
      let numbers : Forest → Option ℕ = numbers_in now.taken.numbers.by_tree in
      let both : Forest → Option ℕ = by_either numbers (numbers_in old.by_tree) in
      let stays : MoreNumbers numbers both = now_stays old.given (numbers_in old.by_tree) (trees_of old) trees now.taken.numbers.given numbers are in
      subst (λ (u : Top). Holds q (parts_of (expanded (numbered_world W) unnumbered (scope_in now.scope) depth u.inner))) tree_is
      (outcome now.taken.numbers.given both before are.numbers
      (old_stays old.given (numbers_in old.by_tree) (trees_of old) trees now.taken.numbers.given numbers are)
      (right_grows W depth numbers both stays now.taken.plains.items has.taken.right) has.met.finds (known_grows numbers both stays before has.known))

  -- a plain piece, put out and held
  module _ (equal : (f g : Forest) → (same_forest f g ≡ true) ↔ (f ≡ g)) (q : Rc Memo Global) (matched : Bool) (scope_is : next.scope ≡ now.scope) (numbers_are : next.taken.numbers ≡ now.taken.numbers)
      (top : tree_of (rc_value q) ≡ own_top r)
      (plains_are : next.taken.plains.items ≡ now.taken.plains.items ++ q ∷ [])
      (hashes_are : next.taken.hashes.items ≡ now.taken.hashes.items ++ tree_hash (tree_of (rc_value q)) ∷ [])
      (steps : Holds (rc_value q) (parts_of (expanded (numbered_world W) unnumbered (scope_in now.scope) depth r))
      → PutsOut now.taken.steps next.taken.steps (resolved_steps start now.scope.starts (expanded (numbered_world W) unnumbered (scope_in now.scope) depth r).steps))
      (faults : next.taken.faults.items ≡ now.taken.faults.items ++ resolved_faults start now.scope.starts (rc_value q).faults.items)
      (counted : matched ≡ list_any (matches (scope_in now.scope) r) held)
      (more : next.taken.expanded ≡ now.taken.expanded + cond matched 0 1) where
    module _ (before : List Met) (trees : List Forest) (done : List Kept) (has : Has before trees done now)
        (parts : Holds (rc_value q) (parts_of (expanded (numbered_world W) unnumbered (scope_in now.scope) depth r))) where
      abbrev E : Outcome Numbered
      E = expanded (numbered_world W) unnumbered (numbered_scope dialect before) depth r

      abbrev k : Kept
      k = kept start before r E

      parts_now : Holds (rc_value q) (parts_of E)
      parts_now = subst (λ s. Holds (rc_value q) (parts_of (expanded (numbered_world W) unnumbered s depth r))) has.met.finds parts

      found : piece_of W depth (rc_value q) ≡ record { tree = r; outcome = E }
      found = piece_found equal W depth (numbers_in now.taken.numbers.by_tree) before has.known r (rc_value q) top parts_now

      right_now : is_some (definition_of r) ≡ false → IsRight W depth (numbers_in now.taken.numbers.by_tree) (rc_value q)
      right_now plain = piece_right equal W depth (numbers_in now.taken.numbers.by_tree) before has.known r (rc_value q) top parts_now plain

      emit_events : resolved_steps start now.scope.starts (expanded (numbered_world W) unnumbered (scope_in now.scope) depth r).steps ≡ output_of (present k)
      emit_events =
          ap (λ s. resolved_steps start now.scope.starts (expanded (numbered_world W) unnumbered s depth r).steps) has.met.finds
          ∙ kept_steps L start now.scope.starts before has.met.starts r E

      put_faults : resolved_faults start now.scope.starts (rc_value q).faults.items ≡ member_faults L (present k)
      put_faults =
          ap (λ fs. resolved_faults start now.scope.starts fs) parts_now.faults
          ∙ kept_faults L start now.scope.starts before has.met.starts r E

      number_more : ◌≡◌ {A = ℕ} (cond matched 0 1) (cond (is_unmatched dialect held k) 1 0)
      number_more =
          ap (λ (b : Bool). cond b 0 1) (counted ∙ ap (λ s. list_any (matches s r) held) has.met.finds)
          ∙ go (list_any (matches (numbered_scope dialect before) r) held)
        where
          go : (b : Bool) → ◌≡◌ {A = ℕ} (cond b 0 1) (cond (not b) 1 0)
          go true = refl
          go false = refl

      pub one_plain : is_some (definition_of r) ≡ false → Has before trees (done ++ k ∷ []) next
      one_plain plain = record {
        met = subst (λ s. HasMet dialect s before) (sym scope_is) has.met;
        known = subst (λ n. All (IsMet (numbered_by (numbers_in n.by_tree))) before) (sym numbers_are) has.known;
        read = subst AreRead (sym scope_is) has.read;
        edition_is = ap (λ s. s.edition) scope_is ∙ has.edition_is;
        taken = record {
          numbers = subst (HasNumbered old.given old.by_tree (trees_of old) trees) (sym numbers_are) has.taken.numbers;
          table_read = subst (λ n. AllRead edition n.by_tree) (sym numbers_are) has.taken.table_read;
          plains = ap (map (λ q. piece_of W depth (rc_value q))) plains_are
              ∙ map-append (λ q. piece_of W depth (rc_value q)) now.taken.plains.items (q ∷ [])
              ∙ ap (λ ps. ps ++ piece_of W depth (rc_value q) ∷ []) has.taken.plains
              ∙ ap (λ p. filter_map held_of done ++ p ∷ []) found
              ∙ sym (filter_map_more held_of done k);
          right = subst (λ n. All (λ q. IsRight W depth (numbers_in n.by_tree) (rc_value q)) next.taken.plains.items) (sym numbers_are)
              (subst (All (λ q. IsRight W depth (numbers_in now.taken.numbers.by_tree) (rc_value q))) (sym plains_are)
              (all_more (λ q. IsRight W depth (numbers_in now.taken.numbers.by_tree) (rc_value q)) now.taken.plains.items q has.taken.right (right_now plain)));
          hashes = hashes_are ∙ ap (λ (hs : List ℕ). hs ++ tree_hash (tree_of (rc_value q)) ∷ []) has.taken.hashes
              ∙ sym (map-append (λ (x : Rc Memo Global). tree_hash (tree_of (rc_value x))) now.taken.plains.items (q ∷ []))
              ∙ ap (map (λ (x : Rc Memo Global). tree_hash (tree_of (rc_value x)))) (sym plains_are);
          steps = subst (HasOutput next.taken.steps)
              (ap (λ l. flat_map output_of (map present done) ++ l) emit_events ∙ sym (flat_present output_of done k))
              (steps parts (flat_map output_of (map present done)) has.taken.steps);
          faults = faults ∙ ap (λ l. l ++ resolved_faults start now.scope.starts (rc_value q).faults.items) has.taken.faults
              ∙ ap (λ l. flat_map (member_faults L) (map present done) ++ l) put_faults ∙ sym (flat_present (member_faults L) done k);
          expanded = more ∙ ap (λ n. n + cond matched 0 1) has.taken.expanded
              ∙ ap (λ n. length (filter (is_unmatched dialect held) done) + n) number_more ∙ sym (counted_more (is_unmatched dialect held) done k);
        };
      }

      pub one_plain_piece : is_some (definition_of r) ≡ false → Has (with_met W depth (number_by (numbers_in next.taken.numbers.by_tree)) piece (definition_of r) before)
          (trees ++ definition_trees (piece ∷ [])) (done ++ kept_of W depth (number_by (numbers_in next.taken.numbers.by_tree)) before piece (definition_of r) ∷ []) next
      one_plain_piece plain =
          subst (λ (o : Option Definition).
          Has (with_met W depth (number_by (numbers_in next.taken.numbers.by_tree)) piece o before) (trees ++ cond (is_some o) (r ∷ []) [])
          (done ++ kept_of W depth (number_by (numbers_in next.taken.numbers.by_tree)) before piece o ∷ []) next) (sym (none_of (definition_of r) plain))
          (subst (λ ts. Has before ts (done ++ k ∷ []) next) (sym (append-nil trees)) (one_plain plain))
        where
          none_of : (o : Option Definition) → is_some o ≡ false → o ≡ None
          none_of None e = refl
          none_of (Some d) e = cc

  -- a definition, numbered and met
  module _ (k : MacroDef) (tree_is : k.tree ≡ own_top r) (definition : is_some (definition_of r) ≡ true)
      (number_is : numbers_in next.taken.numbers.by_tree r ≡ Some k.number) (grows : Grows now.taken next.taken)
      (table_read : AllRead edition next.taken.numbers.by_tree) (scope_read : AreRead next.scope) (edition_is : next.scope.edition ≡ edition)
      (plains_are : next.taken.plains ≡ now.taken.plains) (hashes_are : next.taken.hashes ≡ now.taken.hashes) (steps_are : next.taken.steps ≡ now.taken.steps)
      (expanded_are : next.taken.expanded ≡ now.taken.expanded) where
    module _ (before : List Met) (trees : List Forest) (done : List Kept) (has : Has before trees done now)
        (numbered : HasNumbered old.given old.by_tree (trees_of old) (trees ++ r ∷ []) next.taken.numbers)
        (defined : HasMet dialect next.scope (record { place = first_place piece; numbered = numbered_of_known k } ∷ before)) where
      abbrev numbers : Forest → Option ℕ
      numbers = numbers_in next.taken.numbers.by_tree

      abbrev m : Met
      m = record { place = first_place piece; numbered = numbered_of_known k }

      definition_there : definition_of r ≡ Some (numbered_of_known k).definition
      definition_there = go (definition_of r) refl definition ∙ ap (λ (t : Top). Some (definition_in t.inner)) (sym tree_is)
        where
          go : (o : Option Definition) → definition_of r ≡ o → is_some o ≡ true → definition_of r ≡ Some (definition_in r)
          go None e q = cc
          go (Some d) e q = e ∙ ap Some (sym (definition_is r d e))

      met_now : IsMet (numbered_by numbers) m
      met_now = record { tree = r; entry = number_is; definition = definition_there }

      same : met_of W depth (number_by numbers) piece (numbered_of_known k).definition ≡ m
      same = ap (λ (o : Option ℕ). record { place = first_place piece; numbered = record { number = unwrap_or o 0; definition = (numbered_of_known k).definition } }) number_is

      -- it is in scope, and nothing else is evaluated
      one_met : next.taken.faults ≡ now.taken.faults → Has (m ∷ before) (trees ++ r ∷ []) done next
      one_met faults = record {
        met = defined;
        known = All-cons (IsMet (numbered_by numbers)) m before met_now
            (known_grows (numbers_in now.taken.numbers.by_tree) numbers grows before has.known);
        read = scope_read;
        edition_is = edition_is;
        taken = record {
          numbers = numbered;
          table_read = table_read;
          plains = ap (λ ps. map (λ q. piece_of W depth (rc_value q)) ps.items) plains_are ∙ has.taken.plains;
          right = subst (λ ps. All (λ q. IsRight W depth numbers (rc_value q)) ps.items) (sym plains_are)
              (right_grows W depth (numbers_in now.taken.numbers.by_tree) numbers grows now.taken.plains.items has.taken.right);
          hashes = ap (λ hs. hs.items) hashes_are ∙ has.taken.hashes ∙ ap (λ ps. map (λ (x : Rc Memo Global). tree_hash (tree_of (rc_value x))) ps.items) (sym plains_are);
          steps = subst (λ s. HasOutput s (flat_map output_of (map present done))) (sym steps_are) has.taken.steps;
          faults = ap (λ fs. fs.items) faults ∙ has.taken.faults;
          expanded = expanded_are ∙ has.taken.expanded;
        };
      }

      -- as the laws have it, for a definition of a prelude
      pub one_import : next.taken.faults ≡ now.taken.faults
          → Has (with_met W depth (number_by numbers) piece (definition_of r) before) (trees ++ definition_trees (piece ∷ [])) done next
      one_import faults =
          subst (λ (o : Option Definition).
          Has (with_met W depth (number_by numbers) piece o before) (trees ++ cond (is_some o) (r ∷ []) []) done next) (sym definition_there)
          (subst (λ (x : Met). Has (x ∷ before) (trees ++ r ∷ []) done next) (sym same) (one_met faults))

      module _ (law : LooksAtNoPlace W) (read : IsRead edition k) (faults : next.taken.faults.items ≡ now.taken.faults.items ++ told_of dialect start k) where
        one_defined : Has (m ∷ before) (trees ++ r ∷ []) (done ++ met m ∷ []) next
        one_defined = record {
          met = defined;
          known = All-cons (IsMet (numbered_by numbers)) m before met_now
              (known_grows (numbers_in now.taken.numbers.by_tree) numbers grows before has.known);
          read = scope_read;
          edition_is = edition_is;
          taken = record {
            numbers = numbered;
            table_read = table_read;
            plains = ap (λ ps. map (λ q. piece_of W depth (rc_value q)) ps.items) plains_are ∙ has.taken.plains
                ∙ sym (append-nil (filter_map held_of done)) ∙ sym (filter_map_more held_of done (met m));
            right = subst (λ ps. All (λ q. IsRight W depth numbers (rc_value q)) ps.items) (sym plains_are)
                (right_grows W depth (numbers_in now.taken.numbers.by_tree) numbers grows now.taken.plains.items has.taken.right);
            hashes = ap (λ hs. hs.items) hashes_are ∙ has.taken.hashes ∙ ap (λ ps. map (λ (x : Rc Memo Global). tree_hash (tree_of (rc_value x))) ps.items) (sym plains_are);
            steps = subst (λ s. HasOutput s (flat_map output_of (map present (done ++ met m ∷ [])))) (sym steps_are)
                (subst (HasOutput now.taken.steps) (sym (append-nil (flat_map output_of (map present done))) ∙ sym (flat_present output_of done (met m))) has.taken.steps);
            faults = faults ∙ ap (λ l. l ++ told_of dialect start k) has.taken.faults
                ∙ ap (λ l. flat_map (member_faults L) (map present done) ++ l) (met_faults grammar edition dialect law (first_place piece) k read)
                ∙ sym (flat_present (member_faults L) done (met m));
            expanded = expanded_are ∙ has.taken.expanded ∙ none_more (length (filter (is_unmatched dialect held) done)) ∙ sym (counted_more (is_unmatched dialect held) done (met m));
          };
        }
          where
            none_more : (n : ℕ) → n ≡ n + 0
            none_more n = omega arith

        -- as the laws have it, for a definition of the text
        pub one_definition : Has (with_met W depth (number_by numbers) piece (definition_of r) before) (trees ++ definition_trees (piece ∷ []))
            (done ++ kept_of W depth (number_by numbers) before piece (definition_of r) ∷ []) next
        one_definition =
            subst (λ (o : Option Definition).
            Has (with_met W depth (number_by numbers) piece o before) (trees ++ cond (is_some o) (r ∷ []) [])
            (done ++ kept_of W depth (number_by numbers) before piece o ∷ []) next) (sym definition_there)
            (subst (λ (x : Met). Has (x ∷ before) (trees ++ r ∷ []) (done ++ met x ∷ []) next) (sym same) one_defined)

-- no piece so far
pub none_taken : (grammar : Grammar) (edition : Edition) (dialect : Dialect) (depth : ℕ) (old : Cache) → IsCache (world grammar edition dialect) depth edition old → (now : Evaluated)
    → now.numbers.given ≡ old.given → now.numbers.definitions.items ≡ [] → ((t : Top) → known_in now.numbers.by_tree t ≡ None) → now.plains.items ≡ []
    → now.hashes.items ≡ [] → HasOutput now.steps [] → now.faults.items ≡ [] → now.expanded ≡ 0 → IsEvaluated (world grammar edition dialect) edition depth old (layers grammar edition dialect) [] [] now
none_taken grammar edition dialect depth old right now given definitions none plains hashes steps faults expanded = record {
  numbers = record {
    numbers = record {
      numbers = record {
        within = λ t n e.
            let w = right.numbers.within t n (sym (either t) ∙ e) in
            (w.0, subst (λ g. n ≤ g) (sym given) w.1);
        apart = λ t u n e f. right.numbers.apart t u n (sym (either t) ∙ e) (sym (either u) ∙ f);
      };
      stay = λ t m n e f. absurd (no m (sym (empty t) ∙ e));
      have = λ t. ap is_some (empty t);
      given_is = given ∙ none_more old.given;
    };
    trees_are = ap (map (λ k. inner_of (rc_value k))) definitions;
    table = λ t k e. absurd (no_known k (sym (none t) ∙ e));
    listed = subst (AreInTable now.numbers.by_tree) (sym definitions) (All-nil (λ (k : Rc MacroDef Global). known_in now.numbers.by_tree (rc_value k).tree ≡ Some (rc_value k)));
  };
  table_read = λ t k e. absurd (no_known k (sym (none t) ∙ e));
  plains = ap (map (λ q. piece_of (world grammar edition dialect) depth (rc_value q))) plains;
  right = subst (All (λ q. IsRight (world grammar edition dialect) depth (numbers_in now.numbers.by_tree) (rc_value q))) (sym plains)
      (All-nil (λ q. IsRight (world grammar edition dialect) depth (numbers_in now.numbers.by_tree) (rc_value q)));
  hashes = hashes ∙ ap (map (λ (x : Rc Memo Global). tree_hash (tree_of (rc_value x)))) (sym plains);
  steps = steps;
  faults = faults;
  expanded = expanded;
}
  where
    empty : (t : Forest) → numbers_in now.numbers.by_tree t ≡ None
    empty t = ap (option_map (λ (k : MacroDef). k.number)) (none (own_top t))

    either : (t : Forest) → by_either (numbers_in now.numbers.by_tree) (numbers_in old.by_tree) t ≡ numbers_in old.by_tree t
    either t = ap (λ o. or_else o (numbers_in old.by_tree t)) (empty t)

    no : (n : ℕ) → None ≡ Some n → ⊥
    no n e = cc

    no_known : (k : MacroDef) → None ≡ Some k → ⊥
    no_known k e = cc

    none_more : (n : ℕ) → n ≡ n + 0
    none_more n = omega arith
