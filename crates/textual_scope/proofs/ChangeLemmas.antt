-- A search at other spans gives its result at these.
use Rattle.std.proofs.Common.{◌≡◌, ℕ, zero, suc, Bool, true, false, List, [], ◌∷◌, ◌++◌, map, Option, Some, None, refl, ap, sym, ◌∙◌, unwrap_or, option_map, if◌then◌else◌}
use Rattle.std.specs.Prelude.{◌&&◌, not, is_some}
use Rattle.std.proofs.lemmas.List.{map-append}
use Rattle.tt_data.specs.Forest.{Forest, empty, leaf, group, map_spans, size}
use Rattle.tt_data.specs.Spans.{leaf_with, delimiter_with}
use Rattle.tt_data.specs.Walk.{at_leaf, walk}
use Rattle.tt_data.proofs.ForestLemmas.{size-map_spans}
use Rattle.tt_data.specs.declared.delimiter.Delimiter.{Delimiter}
use Rattle.tt_data.specs.declared.leaf.Ident.{Ident}
use Rattle.tt_data.specs.declared.leaf.Leaf.{Leaf}
use Rattle.tt_data.specs.declared.leaf.Leaf.TheVariants as as_leaf
use Rattle.tt_data.specs.declared.leaf.Punct.{Punct}
use Rattle.tt_data.specs.declared.span.Span.{Span}
use Rattle.bridge.specs.Text.{is_visible}
use Rattle.small_grammar.specs.Text.{same_text}
use Rattle.expander_model.specs.declared.fault.FaultKind.{FaultKind}
use Rattle.expander_model.specs.declared.fault.FaultKind.TheVariants.{CannotExpand, BrokenDefinition, RecursionLimit}
use Rattle.expander_model.specs.Calls.{Path, bare, from_crate, other, Marked, none, token, inside, call, marked, unmarked, key_of}
use Rattle.expander_model.specs.Changes.{outcome_with, Changes, ScopeChange}
use Rattle.expander_model.specs.Definitions.{Definition, nearest}
use Rattle.expander_model.specs.cfg_options.Conditions.{or_else}
use Rattle.expander_model.specs.cfg_options.Options.{options_of}
use Rattle.expander_model.specs.cfg_options.Strings.{string_text}
use Rattle.expander_model.specs.cfg_options.declared.options.CfgOptions.{CfgOptions}
use Rattle.expander_model.proofs.ConditionPlaceLemmas.{left_out-with}
use Rattle.expander_model.specs.Pieces.{cut}
use Rattle.expander_model.specs.Expansion.{World, Outcome, CallSite, just, followed_by, grouped, faulted, found, bursting, stays, before_group}
use Rattle.expander_model.specs.OtherPlaces.{definition_with}
use Rattle.expander_model.proofs.DefinitionPlaceLemmas.{definition_of-with}
use Rattle.expander_model.specs.PieceStates.{after_call, after_group, after_leaf, is_dropped}
use Rattle.expander_model.specs.declared.begun.Begun.{Begun}
use Rattle.expander_model.specs.declared.begun.Begun.TheVariants.{Nothing}
use Rattle.expander_model.specs.declared.dialect.Dialect.{Dialect}
use Rattle.expander_model.specs.declared.scope_rules.ScopeRules.{ScopeRules}
use Rattle.expander_model.specs.declared.scope_rules.ScopeRules.TheVariants.{TopLevel, Rust}
use Rattle.textual_scope.specs.ScopeChanges.{around_with, scoped_with}
use Rattle.expander_model.specs.declared.scope_rules.Standing.TheVariants.{Top, Enclosed, Items, Argument}
use Rattle.expander_model.specs.declared.scope_rules.Standing.{Standing}
use Rattle.expander_model.specs.Scoping.{call_site, Around, Scoped, Search, Expander, Attempt, attempt, PieceKind, out_piece, definition_piece, plain_piece, definition_in, is_excused, is_found, is_out, kind_of, kind_in, is_left_out, in_group, behind, only, and_next, in_brackets, defined, fitted, at_level, unbroken, unless_excused, looked_up, at_key, at_call, kept_call, search_leaf, found_at, is_replaced, is_alone_in, takes_end, search_trees, search_piece, search_pieces, search_list, scoped}
use Rattle.textual_scope.proofs.MarkChangeLemmas.{ident_with, punct_with, path_with, marked_with, marked-with, in_front-with, unmarked-with, cut-with, outer-with, site_with, followed-with, just-with, walk-with, grouped-with, stays-with}
use Rattle.textual_scope.proofs.ResultLemmas.{scoped_same}
use Rattle.textual_scope.proofs.StateLemmas.{after_leaf-with, is_dropped-with}

-- the definition that a name finds, among these at other spans
nearest-with : (f : Span → Span) (locals : List Definition) (name : List ℕ) → nearest (map (definition_with f) locals) name ≡ option_map (definition_with f) (nearest locals name)
nearest-with f [] name = refl
nearest-with f (d ∷ locals) name =
    elim (same_text d.name.sym name) as
    (λ b. (if b then Some (definition_with f d) else nearest (map (definition_with f) locals) name) ≡ option_map (definition_with f) (if b then Some d else nearest locals name))
    [ true ↦ refl | false ↦ nearest-with f locals name ]

definition_in-with : (f : Span → Span) (rules : ScopeRules) (g : Forest) → definition_in rules (map_spans f g) ≡ option_map (definition_with f) (definition_in rules g)
definition_in-with f TopLevel g = refl
definition_in-with f Rust g = definition_of-with f g

-- what is left out is left out at other spans too
pub is_out-with : (f : Span → Span) (cfg : Option CfgOptions) (standing : Standing) (g : Forest) → is_out cfg standing (map_spans f g) ≡ is_out cfg standing g
is_out-with f None standing g = refl
is_out-with f (Some options) Argument g = refl
is_out-with f (Some options) Top g = left_out-with (options_of options) string_text (λ s l. refl) f true g
is_out-with f (Some options) Enclosed g = left_out-with (options_of options) string_text (λ s l. refl) f false g
is_out-with f (Some options) Items g = left_out-with (options_of options) string_text (λ s l. refl) f true g

-- a definition is found at other spans too
pub is_found-with : (f : Span → Span) (dialect : Dialect) (d : Definition) (name : List ℕ) → is_found dialect (definition_with f d) name ≡ is_found dialect d name
is_found-with f dialect d name = ap (λ b. if b then false else same_text d.name.sym name) (is_out-with f dialect.cfg Top d.piece)

-- what a piece is, at other spans
abbrev kind_with : (Span → Span) → PieceKind → PieceKind
kind_with f out_piece = out_piece
kind_with f (definition_piece d) = definition_piece (definition_with f d)
kind_with f plain_piece = plain_piece

kind_in-with : (f : Span → Span) (dialect : Dialect) (standing : Standing) (g : Forest) → kind_in dialect standing (map_spans f g) ≡ kind_with f (kind_in dialect standing g)
kind_in-with f dialect standing g =
    ap (λ b. if b then out_piece else kind_of (definition_in dialect.scope (map_spans f g))) (is_out-with f dialect.cfg standing g)
    ∙ go (is_out dialect.cfg standing g)
  where
    of : (d : Option Definition) → kind_of (option_map (definition_with f) d) ≡ kind_with f (kind_of d)
    of None = refl
    of (Some d) = refl

    go : (b : Bool) → (if b then out_piece else kind_of (definition_in dialect.scope (map_spans f g)))
        ≡ kind_with f (if b then out_piece else kind_of (definition_in dialect.scope g))
    go true = refl
    go false = ap kind_of (definition_in-with f dialect.scope g) ∙ of (definition_in dialect.scope g)

behind-with : (f : Span → Span) (ds : List Definition) (around : Around) → behind (map (definition_with f) ds) (around_with f around) ≡ around_with f (behind ds around)
behind-with f ds around = ap (λ l. record { standing = around.standing; outer = option_map f around.outer; locals = l }) (sym (map-append (definition_with f) ds around.locals))

some-map : {X Y : Type 0} → (g : X → Y) (o : Option X) → is_some (option_map g o) ≡ is_some o
some-map g None = refl
some-map g (Some x) = refl

module _ {D E : Type 0} (f : Span → Span) (h : D → E) where
  next-with : (a : Scoped D) (b : Scoped E) (one : Around → Scoped D) (two : Around → Scoped E) (around : Around)
      → b ≡ scoped_with f h a → ((here : Around) → two (around_with f here) ≡ scoped_with f h (one here))
      → and_next b two (around_with f around) ≡ scoped_with f h (and_next a one around)
  next-with a b one two around e same =
      let after : Scoped D = one (behind a.defines around) in
      ap (λ (x : Scoped E). and_next x two (around_with f around)) e
      ∙ ap (λ (here : Around). record { outcome = followed_by (outcome_with f h a.outcome) (two here).outcome; defines = (two here).defines ++ map (definition_with f) a.defines }) (behind-with f a.defines around)
      ∙ ap (λ (x : Scoped E). record { outcome = followed_by (outcome_with f h a.outcome) x.outcome; defines = x.defines ++ map (definition_with f) a.defines }) (same (behind a.defines around))
      ∙ scoped_same _ _ (sym (followed-with f h a.outcome after.outcome)) (sym (map-append (definition_with f) after.defines a.defines))

  brackets-with : (outer : Option Span) (d : Delimiter) (a : Scoped D)
      → in_brackets (option_map f outer) (delimiter_with f d) (scoped_with f h a) ≡ scoped_with f h (in_brackets outer d a)
  brackets-with outer d a = scoped_same _ _ (grouped-with f h outer d a.outcome) (hides (is_visible d.kind))
    where
      hides : (b : Bool) → (if b then [] else map (definition_with f) a.defines) ≡ map (definition_with f) (if b then [] else a.defines)
      hides true = refl
      hides false = refl

  only-with : (a : Outcome D) (b : Outcome E) → b ≡ outcome_with f h a → only b ≡ scoped_with f h (only a)
  only-with a b e = ap only e

  shown-with : (left : Bool) (outer : Option Span) (g : Forest)
      → just {D = E} (option_map f outer) (if left then [] else walk (map_spans f g)) ≡ outcome_with f h (just outer (if left then [] else walk g))
  shown-with true outer g = just-with f h outer []
  shown-with false outer g = walk-with f h outer g

  told-with : (broken left : Bool) (outer : Option Span) (d : Definition)
      → (let shown : Outcome E = just (option_map f outer) (if left then [] else walk (map_spans f d.piece)) in
      if broken then faulted BrokenDefinition (unwrap_or (option_map f outer) (f d.name.span)) shown else shown)
      ≡ outcome_with f h (let shown : Outcome D = just outer (if left then [] else walk d.piece) in
      if broken then faulted BrokenDefinition (unwrap_or outer d.name.span) shown else shown)
  told-with false left outer d = shown-with left outer d.piece
  told-with true left outer d =
      ap (λ (s : Span). faulted BrokenDefinition s (just {D = E} (option_map f outer) (if left then [] else walk (map_spans f d.piece)))) (outer-with f outer d.name.span)
      ∙ ap (faulted BrokenDefinition (f (unwrap_or outer d.name.span))) (shown-with left outer d.piece)

  -- a call that stays, with its fault unless it is excused
  unfit-with : (excused : Bool) (kind : FaultKind) (outer : Option Span) (site : CallSite)
      → (let kept : Outcome E = stays kind (option_map f outer) (site_with f site) in record kept { faults = unless_excused excused kind (unwrap_or (option_map f outer) (f site.at)) })
      ≡ outcome_with f h (let kept : Outcome D = stays kind outer site in record kept { faults = unless_excused excused kind (unwrap_or outer site.at) })
  unfit-with true kind outer site = ap (λ (o : Outcome E). record o { faults = [] }) (stays-with f h kind outer site)
  unfit-with false kind outer site = stays-with f h kind outer site

  -- what searches a list gives the same at other spans
  abbrev pub SameWith : Search D → Search E → Type 0
  SameWith one two = (around : Around) (g : Forest) → two (around_with f around) (map_spans f g) ≡ scoped_with f h (one around g)

  -- an attempt at a call, at other spans
  abbrev pub attempt_with : Attempt D → Attempt E
  attempt_with a = record { replaces = a.replaces; given = scoped_with f h a.given }

  -- what expands calls gives the same at other spans
  abbrev pub SameFrom : Expander D → Expander E → Type 0
  SameFrom one two = (d : D) (around : Around) (site : CallSite) → two (h d) (around_with f around) (site_with f site) ≡ attempt_with (one d around site)

  abbrev DeeperWith : Option (Expander D) → Option (Expander E) → Type 0
  DeeperWith None None = Unit {0}
  DeeperWith (Some one) (Some two) = SameFrom one two
  DeeperWith None (Some two) = ⊥
  DeeperWith (Some one) None = ⊥

  module _ (dialect : Dialect) (w : World D) (v : World E) (c : Changes f h w v) (local : Definition → D) (local' : Definition → E) (made : (d : Definition) → local' (definition_with f d) ≡ h (local d))
      (scope : List ℕ → Option D) (changed : List ℕ → Option E) (finds : ScopeChange h scope changed) where
    defined-with : (around : Around) (d : Definition) → defined dialect v local' changed (around_with f around) (definition_with f d) ≡ scoped_with f h (defined dialect w local scope around d)
    defined-with around d =
        let left : Bool = is_left_out around.standing in
        let shown : Outcome E = just (option_map f around.outer) (if left then [] else walk (map_spans f d.piece)) in
        let told : Outcome E = faulted BrokenDefinition (unwrap_or (option_map f around.outer) (f d.name.span)) shown in
        scoped_same _ _
        (ap (λ (x : E). if v.broken x then told else shown) (made d)
        ∙ ap (λ (b : Bool). if b then told else shown) (c.broken (local d))
        ∙ told-with (w.broken (local d)) left around.outer d) refl

    fitted-with : (one : Search D) (two : Search E) → SameWith one two → (around : Around) (site : CallSite) (r : Option Forest)
        → fitted dialect v local' changed two (around_with f around) (site_with f site) (option_map (map_spans f) r) ≡ scoped_with f h (fitted dialect w local scope one around site r)
    fitted-with one two same around site None = ap (λ (o : Outcome E). only o) (unfit-with (is_excused dialect CannotExpand around.standing) CannotExpand around.outer site)
    fitted-with one two same around site (Some g) =
        ap (λ (s : Span). two (record { standing = around.standing; outer = Some s; locals = map (definition_with f) around.locals }) (map_spans f g)) (outer-with f around.outer site.at)
        ∙ same (record around { outer = Some (unwrap_or around.outer site.at) }) g

    pub attempt-with : (one : Search D) (two : Search E) → SameWith one two → SameFrom (attempt dialect w local scope one) (attempt dialect v local' changed two)
    attempt-with one two same d around site =
        let here : Option Forest → Scoped E = λ r. fitted dialect v local' changed two (around_with f around) (site_with f site) r in
        let of : Bool → Bool → Scoped E → Attempt E = λ replaces b a. record { replaces = replaces; given = record a { outcome = bursting b a.outcome } } in
        let given : Option Forest = v.fit (h d) (map_spans f site.argument) in
        ap (λ (b : Bool). of (is_some given) b (here given)) (c.bursts d site.argument)
        ∙ ap (λ (r : Option Forest). of (is_some r) (w.bursts d site.argument) (here r)) (c.fit d site.argument)
        ∙ ap (λ (b : Bool). of b (w.bursts d site.argument) (here (option_map (map_spans f) (w.fit d site.argument)))) (some-map (map_spans f) (w.fit d site.argument))
        ∙ ap (of (is_some (w.fit d site.argument)) (w.bursts d site.argument)) (fitted-with one two same around site (w.fit d site.argument))

    level-with : (d : D) (one : Option (Expander D)) (two : Option (Expander E)) → DeeperWith one two → (around : Around) (site : CallSite)
        → at_level dialect v local' changed (h d) two (around_with f around) (site_with f site) ≡ scoped_with f h (at_level dialect w local scope d one around site)
    level-with d None None same around site = ap (λ (o : Outcome E). only o) (stays-with f h RecursionLimit around.outer site)
    level-with d (Some one) (Some two) same around site = ap (λ (a : Attempt E). a.given) (same d around site)
    level-with d None (Some two) same around site = absurd same
    level-with d (Some one) None same around site = absurd same

    unbroken-with : (d : D) (b : Bool) (one : Option (Expander D)) (two : Option (Expander E)) → DeeperWith one two → (around : Around) (site : CallSite)
        → unbroken dialect v local' changed (h d) b two (around_with f around) (site_with f site) ≡ scoped_with f h (unbroken dialect w local scope d b one around site)
    unbroken-with d true one two same around site = ap (λ (o : Outcome E). only o) (stays-with f h BrokenDefinition around.outer site)
    unbroken-with d false one two same around site = level-with d one two same around site

    looked_up-with : (r : Option D) (one : Option (Expander D)) (two : Option (Expander E)) → DeeperWith one two → (around : Around) (site : CallSite)
        → (kept : Scoped D) (kept' : Scoped E) → kept' ≡ scoped_with f h kept
        → looked_up dialect v local' changed (option_map h r) two (around_with f around) (site_with f site) kept' ≡ scoped_with f h (looked_up dialect w local scope r one around site kept)
    looked_up-with None one two same around site kept kept' e = e
    looked_up-with (Some d) one two same around site kept kept' e =
        ap (λ (b : Bool). unbroken dialect v local' changed (h d) b two (around_with f around) (site_with f site)) (c.broken d)
        ∙ unbroken-with d (w.broken d) one two same around site

    key-with : (r : Option Definition) (key : List ℕ) (one : Option (Expander D)) (two : Option (Expander E)) → DeeperWith one two → (around : Around) (site : CallSite)
        → (kept : Scoped D) (kept' : Scoped E) → kept' ≡ scoped_with f h kept
        → at_key dialect v local' changed (option_map (definition_with f) r) key two (around_with f around) (site_with f site) kept'
        ≡ scoped_with f h (at_key dialect w local scope r key one around site kept)
    key-with (Some d) key one two same around site kept kept' e =
        ap (λ (x : E). looked_up dialect v local' changed (Some x) two (around_with f around) (site_with f site) kept') (made d)
        ∙ looked_up-with (Some (local d)) one two same around site kept kept' e
    key-with None key one two same around site kept kept' e =
        ap (λ (r : Option E). let a : Scoped E = looked_up dialect v local' changed r two (around_with f around) (site_with f site) kept' in
        record a { outcome = found key r a.outcome }) (finds key)
        ∙ ap (λ (a : Scoped E). record a { outcome = found key (option_map h (scope key)) a.outcome }) (looked_up-with (scope key) one two same around site kept kept' e)

    call-with : (path : Path) (name : Ident) (one : Option (Expander D)) (two : Option (Expander E)) → DeeperWith one two → (around : Around) (site : CallSite)
        → (kept : Scoped D) (kept' : Scoped E) → kept' ≡ scoped_with f h kept
        → at_call dialect v local' changed two (around_with f around) (path_with f path) (ident_with f name) (site_with f site) kept'
        ≡ scoped_with f h (at_call dialect w local scope one around path name site kept)
    call-with bare name one two same around site kept kept' e =
        ap (λ (r : Option Definition). at_key dialect v local' changed r name.sym two (around_with f around) (site_with f site) kept') (nearest-with f around.locals name.sym)
        ∙ key-with (nearest around.locals name.sym) name.sym one two same around site kept kept' e
    call-with (from_crate root p q) name one two same around site kept kept' e = key-with None (key_of (from_crate root p q) name) one two same around site kept kept' e
    call-with (other p q) name one two same around site kept kept' e = e

    leaf-with : (s : Begun) (around : Around) (l : Leaf)
        → search_leaf dialect v local' changed s (around_with f around) (leaf_with f l) ≡ scoped_with f h (search_leaf dialect w local scope s around l)
    leaf-with s around l =
        ap (λ (b : Bool). let o : Outcome E = just (option_map f around.outer) (if b then [] else at_leaf (leaf_with f l) ∷ []) in only o) (is_dropped-with f s l)
        ∙ go (is_dropped s l)
      where
        go : (b : Bool) → (let o : Outcome E = just (option_map f around.outer) (if b then [] else at_leaf (leaf_with f l) ∷ []) in only o)
            ≡ scoped_with f h (let o : Outcome D = just around.outer (if b then [] else at_leaf l ∷ []) in only o)
        go true = only-with (just around.outer []) _ (just-with f h around.outer [])
        go false = only-with (just around.outer (at_leaf l ∷ [])) _ (just-with f h around.outer (at_leaf l ∷ []))

    -- a call at other spans
    site-with : (path : Path) (name : Ident) (bang : Punct) (d : Delimiter) (argument : Forest)
        → call_site (path_with f path) (ident_with f name) (punct_with f bang) (delimiter_with f d) (map_spans f argument) ≡ site_with f (call_site path name bang d argument)
    site-with path name bang d argument =
        ap (λ (whole : Forest). record { at = f name.span; whole = whole; argument = map_spans f argument })
        (in_front-with f path (leaf (as_leaf.Ident name) (leaf (as_leaf.Punct bang) (group d argument empty))))

    -- what a call's name finds
    found_at-with : (around : Around) (path : Path) (name : Ident)
        → found_at dialect v local' changed (around_with f around) (path_with f path) (ident_with f name) ≡ option_map h (found_at dialect w local scope around path name)
    found_at-with around bare name =
        ap (λ (r : Option Definition). or_else (option_map local' r) (changed name.sym)) (nearest-with f around.locals name.sym) ∙ go (nearest around.locals name.sym)
      where
        go : (r : Option Definition) → or_else (option_map local' (option_map (definition_with f) r)) (changed name.sym) ≡ option_map h (or_else (option_map local r) (scope name.sym))
        go None = finds name.sym
        go (Some x) = ap Some (made x)
    found_at-with around (from_crate root p q) name = finds (key_of (from_crate root p q) name)
    found_at-with around (other p q) name = refl

    replaced-with : (one : Option (Expander D)) (two : Option (Expander E)) → DeeperWith one two → (r : Option D) (around : Around) (site : CallSite)
        → is_replaced dialect v local' changed two (option_map h r) (around_with f around) (site_with f site) ≡ is_replaced dialect w local scope one r around site
    replaced-with None None same r around site = refl
    replaced-with (Some one) (Some two) same None around site = refl
    replaced-with (Some one) (Some two) same (Some d) around site =
        ap (λ (b : Bool). not b && (two (h d) (around_with f around) (site_with f site)).replaces) (c.broken d)
        ∙ ap (λ (a : Attempt E). not (w.broken d) && a.replaces) (same d around site)
    replaced-with None (Some two) same r around site = absurd same
    replaced-with (Some one) None same r around site = absurd same

    -- whether a `;` goes with the call
    end-with : (s : Begun) (around : Around) (path : Path) (name : Ident) (d : Delimiter) (one : Option (Expander D)) (two : Option (Expander E)) → DeeperWith one two → (site : CallSite)
        → takes_end dialect v local' changed two s (around_with f around) (path_with f path) (ident_with f name) (delimiter_with f d) (site_with f site)
        ≡ takes_end dialect w local scope one s around path name d site
    end-with s around path name d one two same site =
        let alone : Bool = is_alone_in dialect s around.standing d in
        ap (λ (r : Option E). alone && is_replaced dialect v local' changed two r (around_with f around) (site_with f site)) (found_at-with around path name)
        ∙ ap (λ (b : Bool). alone && b) (replaced-with one two same (found_at dialect w local scope around path name) around site)

    module _ (one : Search D) (two : Search E) (same : SameWith one two) (deep : Option (Expander D)) (deep' : Option (Expander E)) (deeper : DeeperWith deep deep') where
      kept-with : (around : Around) (path : Path) (name : Ident) (bang : Punct) (d : Delimiter) (inner : Forest)
          → kept_call dialect v local' changed two (around_with f around) (path_with f path) (ident_with f name) (punct_with f bang) (delimiter_with f d) (map_spans f inner)
          ≡ scoped_with f h (kept_call dialect w local scope one around path name bang d inner)
      kept-with around path name bang d inner =
          let lead : Outcome D = just around.outer (walk (before_group path name bang)) in
          let held : Scoped D = one (record around { standing = Argument }) inner in
          let lead' : Outcome E = just (option_map f around.outer) (walk (before_group (path_with f path) (ident_with f name) (punct_with f bang))) in
          let in_it : Scoped E → Outcome E = λ a. grouped (option_map f around.outer) (delimiter_with f d) a.outcome in
          let lead_is : lead' ≡ outcome_with f h lead =
          ap (λ (g : Forest). just {D = E} (option_map f around.outer) (walk g)) (in_front-with f path (leaf (as_leaf.Ident name) (leaf (as_leaf.Punct bang) empty)))
          ∙ walk-with f h around.outer (before_group path name bang) in
          only-with (followed_by lead (grouped around.outer d held.outcome)) _
          (ap (λ (a : Scoped E). followed_by lead' (in_it a)) (same (record around { standing = Argument }) inner)
          ∙ ap (λ (o : Outcome E). followed_by o (in_it (scoped_with f h held))) lead_is
          ∙ ap (followed_by (outcome_with f h lead)) (grouped-with f h around.outer d held.outcome)
          ∙ sym (followed-with f h lead (grouped around.outer d held.outcome)))

      trees-with : (s : Begun) (around : Around) (m : Marked)
          → search_trees dialect v local' changed two deep' s (around_with f around) (marked_with f m) ≡ scoped_with f h (search_trees dialect w local scope one deep s around m)
      trees-with s around none = ap (λ (o : Outcome E). only o) (just-with f h around.outer [])
      trees-with s around (token l rest) =
          next-with (search_leaf dialect w local scope s around l) (search_leaf dialect v local' changed s (around_with f around) (leaf_with f l))
          (λ here. search_trees dialect w local scope one deep (after_leaf s l) here rest) (λ here. search_trees dialect v local' changed two deep' (after_leaf s (leaf_with f l)) here (marked_with f rest))
          around (leaf-with s around l)
          (λ here. ap (λ (t : Begun). search_trees dialect v local' changed two deep' t (around_with f here) (marked_with f rest)) (after_leaf-with f s l) ∙ trees-with (after_leaf s l) here rest)
      trees-with s around (inside d a rest) =
          let inner : Around = record around { standing = in_group s d.kind around.standing } in
          let within : Standing → Forest → Scoped E = λ s g. two (record { standing = s; outer = option_map f around.outer; locals = map (definition_with f) around.locals }) g in
          next-with (in_brackets around.outer d (one inner (unmarked a)))
          (in_brackets (option_map f around.outer) (delimiter_with f d) (within (in_group s d.kind around.standing) (unmarked (marked_with f a))))
          (λ here. search_trees dialect w local scope one deep (after_group s d.kind) here rest) (λ here. search_trees dialect v local' changed two deep' (after_group s d.kind) here (marked_with f rest))
          around
          (ap (in_brackets (option_map f around.outer) (delimiter_with f d))
          (ap (within (in_group s d.kind around.standing)) (unmarked-with f a) ∙ same inner (unmarked a))
          ∙ brackets-with around.outer d (one inner (unmarked a)))
          (λ here. trees-with (after_group s d.kind) here rest)
      trees-with s around (call path name bang d a rest) =
          let site : CallSite = call_site path name bang d (unmarked a) in
          let kept : Scoped D = kept_call dialect w local scope one around path name bang d (unmarked a) in
          let kept' : Forest → Scoped E = λ g. kept_call dialect v local' changed two (around_with f around) (path_with f path) (ident_with f name) (punct_with f bang) (delimiter_with f d) g in
          let site' : Forest → CallSite = λ g. call_site (path_with f path) (ident_with f name) (punct_with f bang) (delimiter_with f d) g in
          let there : CallSite → Scoped E → Scoped E = λ x k. at_call dialect v local' changed deep' (around_with f around) (path_with f path) (ident_with f name) x k in
          let gone : Bool = takes_end dialect w local scope deep s around path name d site in
          let gone' : CallSite → Bool = λ x. takes_end dialect v local' changed deep' s (around_with f around) (path_with f path) (ident_with f name) (delimiter_with f d) x in
          let here : site' (unmarked (marked_with f a)) ≡ site_with f site = ap site' (unmarked-with f a) ∙ site-with path name bang d (unmarked a) in
          next-with (at_call dialect w local scope deep around path name site kept) (there (site' (unmarked (marked_with f a))) (kept' (unmarked (marked_with f a))))
          (λ here. search_trees dialect w local scope one deep (after_call gone s d.kind) here rest)
          (λ here. search_trees dialect v local' changed two deep' (after_call (gone' (site' (unmarked (marked_with f a)))) s d.kind) here (marked_with f rest))
          around
          (ap (λ x. there x (kept' (unmarked (marked_with f a)))) here
          ∙ ap (λ g. there (site_with f site) (kept' g)) (unmarked-with f a)
          ∙ call-with path name deep deep' deeper around site kept (kept' (map_spans f (unmarked a))) (kept-with around path name bang d (unmarked a)))
          (λ back.
          ap (λ (t : Bool). search_trees dialect v local' changed two deep' (after_call t s d.kind) (around_with f back) (marked_with f rest))
          (ap gone' here ∙ end-with s around path name d deep deep' deeper site)
          ∙ trees-with (after_call gone s d.kind) back rest)

      part-with : (around : Around) (p : Forest) (k : PieceKind)
          → search_piece dialect v local' changed two deep' (around_with f around) (map_spans f p) (kind_with f k)
          ≡ scoped_with f h (search_piece dialect w local scope one deep around p k)
      part-with around p out_piece = ap (λ (o : Outcome E). only o) (just-with f h around.outer [])
      part-with around p (definition_piece d) = defined-with around d
      part-with around p plain_piece =
          ap (search_trees dialect v local' changed two deep' Nothing (around_with f around)) (marked-with f p) ∙ trees-with Nothing around (marked p)

      parts_of-with : (around : Around) (ps : List Forest)
          → search_pieces dialect v local' changed two deep' (around_with f around) (map (map_spans f) ps) ≡ scoped_with f h (search_pieces dialect w local scope one deep around ps)
      parts_of-with around [] = ap (λ (o : Outcome E). only o) (just-with f h around.outer [])
      parts_of-with around (p ∷ ps) =
          next-with (search_piece dialect w local scope one deep around p (kind_in dialect around.standing p))
          (search_piece dialect v local' changed two deep' (around_with f around) (map_spans f p) (kind_in dialect around.standing (map_spans f p)))
          (λ here. search_pieces dialect w local scope one deep here ps) (λ here. search_pieces dialect v local' changed two deep' here (map (map_spans f) ps))
          around
          (ap (search_piece dialect v local' changed two deep' (around_with f around) (map_spans f p)) (kind_in-with f dialect around.standing p) ∙ part-with around p (kind_in dialect around.standing p))
          (λ here. parts_of-with here ps)

    pub list-with : (deep : Option (Expander D)) (deep' : Option (Expander E)) → DeeperWith deep deep' → (n : ℕ)
        → SameWith (search_list dialect w local scope deep n) (search_list dialect v local' changed deep' n)
    list-with deep deep' deeper zero around g = ap (λ (o : Outcome E). only o) (just-with f h around.outer [])
    list-with deep deep' deeper (suc n) around g =
        ap (search_pieces dialect v local' changed (search_list dialect v local' changed deep' n) deep' (around_with f around)) (cut-with f g)
        ∙ parts_of-with (search_list dialect w local scope deep n) (search_list dialect v local' changed deep' n) (list-with deep deep' deeper n) deep deep' deeper around (cut g)

    -- the law
    pub scoped-with : (n : ℕ) → SameWith (scoped dialect w local scope n) (scoped dialect v local' changed n)
    scoped-with zero around g =
        ap (λ k. search_list dialect v local' changed None (suc k) (around_with f around) (map_spans f g)) (size-map_spans f g)
        ∙ list-with None None tt (suc (size g)) around g
    scoped-with (suc n) around g =
        let one : Search D = scoped dialect w local scope n in
        let two : Search E = scoped dialect v local' changed n in
        let tries : Expander E = attempt dialect v local' changed two in
        ap (λ k. search_list dialect v local' changed (Some tries) (suc k) (around_with f around) (map_spans f g)) (size-map_spans f g)
        ∙ list-with (Some (attempt dialect w local scope one)) (Some tries) (attempt-with one two (scoped-with n)) (suc (size g)) around g
