-- Where no list has a definition, a search is an expansion, and defines nothing.
use Rattle.std.proofs.Common.{◌≡◌, ◌⊎◌, inl, inr, ℕ, zero, suc, ◌<◌, ◌≤◌, Bool, true, false, List, [], ◌∷◌, Option, Some, None, refl, ap, sym, ◌∙◌, arith, unwrap_or, if◌then◌else◌}
use Rattle.std.specs.Prelude.{◌&&◌}
use Rattle.expander_model.specs.Limits.{limited, outermost}
use Rattle.expander_model.specs.declared.limits.Limits.{Limits}
use Rattle.tt_data.specs.Forest.{Forest, size}
use Rattle.tt_data.specs.Walk.{at_leaf, walk}
use Rattle.tt_data.specs.declared.delimiter.Delimiter.{Delimiter}
use Rattle.tt_data.specs.declared.leaf.Ident.{Ident}
use Rattle.tt_data.specs.declared.span.Span.{Span}
use Rattle.bridge.specs.Text.{is_visible}
use Rattle.expander_model.specs.Calls.{Path, bare, from_crate, other, Marked, none, token, inside, call, marked, unmarked, key_of}
use Rattle.expander_model.specs.Definitions.{Definition}
use Rattle.expander_model.specs.Expansion as expanding
use Rattle.expander_model.specs.Pieces.{cut}
use Rattle.expander_model.specs.Expansion.{World, Outcome, Deeper, CallSite, just, followed_by, grouped, found, bursting, stays, before_group, whole_call, search_calls, expansion}
use Rattle.expander_model.specs.PieceStates.{after_call, after_group, after_leaf}
use Rattle.expander_model.specs.declared.begun.Begun.{Begun}
use Rattle.expander_model.specs.declared.begun.Begun.TheVariants.{Nothing}
use Rattle.expander_model.specs.declared.dialect.Dialect.{Dialect}
use Rattle.expander_model.specs.declared.scope_rules.ScopeRules.{ScopeRules}
use Rattle.expander_model.specs.declared.fault.FaultKind.TheVariants.{CannotExpand}
use Rattle.expander_model.specs.declared.scope_rules.Standing.TheVariants.{Top, Enclosed, Items, Argument}
use Rattle.expander_model.specs.declared.scope_rules.Standing.{Standing}
use Rattle.expander_model.specs.Scoping.{call_site, without_locals, Scoped, Search, Expander, attempt, PieceKind, out_piece, definition_piece, plain_piece, definition_in, is_out, kind_of, kind_in, found_at, in_group, is_alone_in, is_excused, is_replaced, only, unless_excused, in_brackets, fitted, at_level, unbroken, looked_up, at_key, at_call, search_leaf, takes_end, search_trees, search_piece, search_pieces, search_list, scoped}
use Rattle.textual_scope.proofs.ChainLemmas.{each, piece_by_piece}
use Rattle.textual_scope.proofs.MarkLemmas.{AllInside, IsBelow, inside_marked}
use Rattle.textual_scope.proofs.ResultLemmas.{same_next}
use Rattle.textual_scope.proofs.SizeLemmas.{AreWithin, within_parts}
use Rattle.textual_scope.proofs.StateLemmas.{IsShown, shown_leaf, leaf_shown, group_shown, call_shown}

-- these lists are plain, and none is a definition
abbrev pub ArePlain : ScopeRules → (Forest → Type 0) → List Forest → Type 0
ArePlain rules Plain [] = Unit {0}
ArePlain rules Plain (p ∷ ps) = (definition_in rules p ≡ None) × Plain p × ArePlain rules Plain ps

-- where nothing is left out, a piece that is no definition is plain
pub kind_plain : (dialect : Dialect) (standing : Standing) (p : Forest) → dialect.cfg ≡ None → definition_in dialect.scope p ≡ None
    → kind_in dialect standing p ≡ plain_piece
kind_plain dialect standing p whole e =
    ap (λ c. if is_out c standing p then out_piece else kind_of (definition_in dialect.scope p)) whole ∙ ap kind_of e

-- an option of the dialect plays no part: it is not set, or names find nothing
abbrev pub PlaysNoPart : {D : Type 0} → Bool → (List ℕ → Option D) → Type 0
PlaysNoPart option scope = (option ≡ false) ⊎ ((key : List ℕ) → scope key ≡ None)

-- no call takes the `;` behind it along
abbrev pub KeepsEnds : {D : Type 0} → Dialect → (List ℕ → Option D) → Type 0
KeepsEnds dialect scope = PlaysNoPart dialect.items scope

-- no call that fits no rule is excused
abbrev pub TellsAll : {D : Type 0} → Dialect → (List ℕ → Option D) → Type 0
TellsAll dialect scope = PlaysNoPart dialect.excuses scope

-- where none is by the dialect
unexcused : (dialect : Dialect) → dialect.excuses ≡ false → (standing : Standing) → is_excused dialect CannotExpand standing ≡ false
unexcused dialect off Top = refl
unexcused dialect off Enclosed = refl
unexcused dialect off Items = refl
unexcused dialect off Argument = off

-- lists with this property have no definitions, and what is inside them has it too
pub record HasNone {D : Type 0} (dialect : Dialect) (world : World D) (scope : List ℕ → Option D) (Plain : Forest → Type 0) : Type 0 where
  pub in_parts : (f : Forest) → Plain f → ArePlain dialect.scope Plain (cut f)
  pub keeps : KeepsEnds dialect scope
  pub tells : TellsAll dialect scope
  pub whole : dialect.cfg ≡ None
  pub inner : (f : Forest) → Plain f → AllInside (λ a. Plain (unmarked a)) (marked f)
  pub results : (key : List ℕ) (d : D) → scope key ≡ Some d → (argument result : Forest) → Plain argument → world.fit d argument ≡ Some result → Plain result

module _ {D : Type 0} (dialect : Dialect) (world : World D) (local : Definition → D) (scope : List ℕ → Option D) (Plain : Forest → Type 0) (has : HasNone dialect world scope Plain) where
  abbrev Same : Search D → (Option Span → Forest → Outcome D) → Type 0
  Same search deeper = (standing : Standing) (outer : Option Span) (f : Forest) → Plain f → search (without_locals standing outer) f ≡ only (deeper outer f)

  -- a call of a definition that is found gives what it gives where no list has definitions
  abbrev SameFrom : Expander D → (Option Span → Forest → Outcome D) → Type 0
  SameFrom expand deeper = (key : List ℕ) (d : D) → scope key ≡ Some d → (standing : Standing) (outer : Option Span) (site : CallSite) → Plain site.argument
      → (expand d (without_locals standing outer) site).given ≡ only (bursting (world.bursts d site.argument) (expanding.fitted deeper outer site (world.fit d site.argument)))

  abbrev SameDeeper : Option (Expander D) → Deeper D → Type 0
  SameDeeper None None = Unit {0}
  SameDeeper (Some expand) (Some deeper) = SameFrom expand deeper
  SameDeeper None (Some deeper) = ⊥
  SameDeeper (Some expand) None = ⊥

  module _ (standing : Standing) (outer : Option Span) (site : CallSite) (plain : Plain site.argument) where
    fits : dialect.excuses ≡ false → (search : Search D) (deeper : Option Span → Forest → Outcome D) → Same search deeper → (r : Option Forest) → ((g : Forest) → r ≡ Some g → Plain g)
        → fitted dialect world local scope search (without_locals standing outer) site r ≡ only (expanding.fitted deeper outer site r)
    fits off search deeper same None h =
        let kept : Outcome D = stays CannotExpand outer site in
        ap (λ b. only (record kept { faults = unless_excused b CannotExpand (unwrap_or outer site.at) })) (unexcused dialect off standing)
    fits off search deeper same (Some g) h = same standing (Some (unwrap_or outer site.at)) g (h g refl)

    levels : (key : List ℕ) (d : D) → scope key ≡ Some d → (search : Option (Expander D)) (deeper : Deeper D) → SameDeeper search deeper
        → at_level dialect world local scope d search (without_locals standing outer) site ≡ only (expanding.at_level world d deeper outer site)
    levels key d e None None same = refl
    levels key d e (Some expand) (Some deeper) same = same key d e standing outer site plain
    levels key d e None (Some deeper) same = absurd same
    levels key d e (Some expand) None same = absurd same

    valid : (key : List ℕ) (d : D) → scope key ≡ Some d → (b : Bool) (search : Option (Expander D)) (deeper : Deeper D) → SameDeeper search deeper
        → unbroken dialect world local scope d b search (without_locals standing outer) site ≡ only (expanding.unbroken world d b deeper outer site)
    valid key d e true search deeper same = refl
    valid key d e false search deeper same = levels key d e search deeper same

    looks : (key : List ℕ) (r : Option D) → scope key ≡ r → (search : Option (Expander D)) (deeper : Deeper D) → SameDeeper search deeper → (kept : Outcome D)
        → looked_up dialect world local scope r search (without_locals standing outer) site (only kept) ≡ only (expanding.looked_up world r deeper outer site kept)
    looks key None e search deeper same kept = refl
    looks key (Some d) e search deeper same kept = valid key d e (world.broken d) search deeper same

    keyed : (key : List ℕ) (search : Option (Expander D)) (deeper : Deeper D) → SameDeeper search deeper → (kept : Outcome D)
        → at_key dialect world local scope None key search (without_locals standing outer) site (only kept)
        ≡ only (found key (scope key) (expanding.looked_up world (scope key) deeper outer site kept))
    keyed key search deeper same kept =
        ap (λ (a : Scoped D). record a { outcome = found key (scope key) a.outcome }) (looks key (scope key) refl search deeper same kept)

    calls : (path : Path) (name : Ident) (search : Option (Expander D)) (deeper : Deeper D) → SameDeeper search deeper → (kept : Outcome D)
        → at_call dialect world local scope search (without_locals standing outer) path name site (only kept)
        ≡ only (expanding.at_call world scope deeper outer path name site kept)
    calls bare name search deeper same kept = keyed name.sym search deeper same kept
    calls (from_crate root p q) name search deeper same kept = keyed (key_of (from_crate root p q) name) search deeper same kept
    calls (other p q) name search deeper same kept = refl

  module _ (deeper : Option (Expander D)) (s : Begun) (standing : Standing) (outer : Option Span) (path : Path) (name : Ident) (d : Delimiter) (site : CallSite) where
    found_none : ((key : List ℕ) → scope key ≡ None) → (p : Path) → found_at dialect world local scope (without_locals standing outer) p name ≡ None
    found_none nothing bare = nothing name.sym
    found_none nothing (from_crate root p q) = nothing (key_of (from_crate root p q) name)
    found_none nothing (other p q) = refl

    none_replaced : (o : Option (Expander D)) → is_replaced dialect world local scope o None (without_locals standing outer) site ≡ false
    none_replaced None = refl
    none_replaced (Some expand) = refl

    and_false : (b : Bool) → (b && false) ≡ false
    and_false true = refl
    and_false false = refl

    takes_none : KeepsEnds dialect scope → takes_end dialect world local scope deeper s (without_locals standing outer) path name d site ≡ false
    takes_none (inl e) = rw e refl
    takes_none (inr nothing) =
        let alone : Bool = is_alone_in dialect s standing d in
        ap (λ x. alone && is_replaced dialect world local scope deeper x (without_locals standing outer) site) (found_none nothing path)
        ∙ ap (λ b. alone && b) (none_replaced deeper) ∙ and_false alone

  hides : (b : Bool) → (let none : List Definition = [] in if b then none else none) ≡ []
  hides true = refl
  hides false = refl

  bracketed : (outer : Option Span) (d : Delimiter) (o : Outcome D) → in_brackets outer d (only o) ≡ only (grouped outer d o)
  bracketed outer d o = ap (λ (ds : List Definition). record { outcome = grouped outer d o; defines = ds }) (hides (is_visible d.kind))

  module _ (deep : Option (Expander D)) (deeper : Deeper D) (same : SameDeeper deep deeper) where
    abbrev expands : Option Span → Marked → Outcome D
    expands outer m = search_calls world scope deeper outer m

    abbrev SameBelow : ℕ → Search D → Type 0
    SameBelow k search =
        (standing : Standing) (outer : Option Span) (f : Forest) → size f < k → Plain f → search (without_locals standing outer) f ≡ only (expands outer (marked f))

    module _ (k : ℕ) (search : Search D) (below : SameBelow k search) where
      held : (standing : Standing) (outer : Option Span) (a : Marked) → IsBelow k a → Plain (unmarked a)
          → search (without_locals standing outer) (unmarked a) ≡ only (expands outer a)
      held standing outer a h plain = below standing outer (unmarked a) h.less plain ∙ ap (λ m. only (expands outer m)) h.same

      trees : (s : Begun) → IsShown s → (standing : Standing) (outer : Option Span) (m : Marked) → AllInside (IsBelow k) m → AllInside (λ a. Plain (unmarked a)) m
          → search_trees dialect world local scope search deep s (without_locals standing outer) m ≡ only (expands outer m)
      trees s shown standing outer none h plain = refl
      trees s shown standing outer (token l rest) h plain =
          same_next (only (just outer (at_leaf l ∷ []))) (search_leaf dialect world local scope s (without_locals standing outer) l)
          (λ here. only (expands outer rest)) (λ here. search_trees dialect world local scope search deep (after_leaf s l) here rest)
          (without_locals standing outer)
          (ap (λ (b : Bool). let o : Outcome D = just outer (if b then [] else at_leaf l ∷ []) in only o) (shown_leaf s l shown))
          (trees (after_leaf s l) (leaf_shown s l) standing outer rest h plain)
      trees s shown standing outer (inside d a rest) h plain =
          let within : Standing = in_group s d.kind standing in
          same_next (only (grouped outer d (expands outer a))) (in_brackets outer d (search (without_locals within outer) (unmarked a)))
          (λ here. only (expands outer rest)) (λ here. search_trees dialect world local scope search deep (after_group s d.kind) here rest)
          (without_locals standing outer)
          (ap (in_brackets outer d) (held within outer a h.0 plain.0) ∙ bracketed outer d (expands outer a))
          (trees (after_group s d.kind) (group_shown s d.kind) standing outer rest h.1 plain.1)
      trees s shown standing outer (call path name bang d a rest) h plain =
          let site : CallSite = call_site path name bang d (unmarked a) in
          let gone : Bool = takes_end dialect world local scope deep s (without_locals standing outer) path name d site in
          let stays : gone ≡ false = takes_none deep s standing outer path name d site has.keeps in
          let before : Outcome D = just outer (walk (before_group path name bang)) in
          let of : Scoped D → Scoped D = λ x.
          at_call dialect world local scope deep (without_locals standing outer) path name site (only (followed_by before (grouped outer d x.outcome))) in
          let kept : Outcome D = followed_by before (grouped outer d (expands outer a)) in
          same_next (only (expanding.at_call world scope deeper outer path name site kept)) (of (search (without_locals Argument outer) (unmarked a)))
          (λ here. only (expands outer rest)) (λ here. search_trees dialect world local scope search deep (after_call gone s d.kind) here rest)
          (without_locals standing outer)
          (ap of (held Argument outer a h.0 plain.0) ∙ calls standing outer site plain.0 path name deep deeper same kept)
          (trees (after_call gone s d.kind) (call_shown gone s d.kind stays) standing outer rest h.1 plain.1)

      part : (standing : Standing) (outer : Option Span) (p : Forest) (r : PieceKind) → r ≡ plain_piece → size p ≤ k → Plain p
          → search_piece dialect world local scope search deep (without_locals standing outer) p r ≡ only (expands outer (marked p))
      part standing outer p plain_piece e h plain = trees Nothing tt standing outer (marked p) (inside_marked k p h) (has.inner p plain)
      part standing outer p (definition_piece d) e h plain = absurd (cc e)
      part standing outer p out_piece e h plain = absurd (cc e)

      all_parts : (standing : Standing) (outer : Option Span) (ps : List Forest) → AreWithin k ps → ArePlain dialect.scope Plain ps
          → search_pieces dialect world local scope search deep (without_locals standing outer) ps ≡ only (each world scope deeper outer ps)
      all_parts standing outer [] h plain = refl
      all_parts standing outer (p ∷ ps) h plain =
          same_next (only (expands outer (marked p))) (search_piece dialect world local scope search deep (without_locals standing outer) p (kind_in dialect standing p))
          (λ here. only (each world scope deeper outer ps)) (λ here. search_pieces dialect world local scope search deep here ps)
          (without_locals standing outer) (part standing outer p (kind_in dialect standing p) (kind_plain dialect standing p has.whole plain.0) h.0 plain.1) (all_parts standing outer ps h.1 plain.2)

    within_more : (n : ℕ) (ps : List Forest) (k : ℕ) → k ≤ n → AreWithin k ps → AreWithin n ps
    within_more n [] k less h = tt
    within_more n (p ∷ ps) k less h = (omega (arith, less, h.0), within_more n ps k less h.1)

    lists : (n : ℕ) → SameBelow n (search_list dialect world local scope deep n)
    lists zero standing outer f less plain = absurd (omega (arith, less))
    lists (suc n) standing outer f less plain =
        all_parts n (search_list dialect world local scope deep n) (lists n) standing outer (cut f)
        (within_more n (cut f) (size f) (omega (arith, less)) (within_parts f)) (has.in_parts f plain)
        ∙ ap only (piece_by_piece world scope deeper outer f)

  -- where results are searched as lists without definitions are
  same_attempt : (search : Search D) (deeper : Option Span → Forest → Outcome D) → Same search deeper → SameFrom (attempt dialect world local scope search) deeper
  same_attempt search deeper same key d e standing outer site plain = go has.tells
    where
      go : TellsAll dialect scope → (attempt dialect world local scope search d (without_locals standing outer) site).given
          ≡ only (bursting (world.bursts d site.argument) (expanding.fitted deeper outer site (world.fit d site.argument)))
      go (inl off) =
          ap (λ (a : Scoped D). record a { outcome = bursting (world.bursts d site.argument) a.outcome })
          (fits standing outer site plain off search deeper same (world.fit d site.argument) (λ g fit. has.results key d e site.argument g plain fit))
      go (inr nothing) = absurd (let both : None ≡ Some d = sym (nothing key) ∙ e in cc both)

  pub as_expansion : (depth : ℕ) → Same (scoped dialect world local scope depth) (expansion world scope depth)
  as_expansion zero standing outer f plain = lists None None tt (suc (size f)) standing outer f (omega arith) plain
  as_expansion (suc n) standing outer f plain =
      let search : Search D = scoped dialect world local scope n in
      lists (Some (attempt dialect world local scope search)) (Some (expansion world scope n)) (same_attempt search (expansion world scope n) (as_expansion n))
      (suc (size f)) standing outer f (omega arith) plain

  -- by limits too, where names find nothing
  pub as_outermost : ((key : List ℕ) → scope key ≡ None) → (o : Option Limits) (depth : ℕ) → Same (outermost dialect world local scope o depth) (expansion world scope depth)
  as_outermost nothing None depth standing outer f plain = as_expansion depth standing outer f plain
  as_outermost nothing (Some limits) zero standing outer f plain = lists None None tt (suc (size f)) standing outer f (omega arith) plain
  as_outermost nothing (Some limits) (suc n) standing outer f plain =
      lists (Some (limited dialect world local scope limits n)) (Some (expansion world scope n))
      (λ key d e. absurd (let both : None ≡ Some d = sym (nothing key) ∙ e in cc both)) (suc (size f)) standing outer f (omega arith) plain
