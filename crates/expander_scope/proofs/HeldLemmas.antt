-- The expansion of a text with piece-relative spans is the text's meaning.
use Rattle.std.proofs.Common.{◌≡◌, ℕ, suc, Bool, true, false, cond, List, [], ◌∷◌, map, Option, Some, None, refl, ap, sym, subst, ◌∙◌, option_map, nat_eq}
use Rattle.std.specs.Prelude.{All}
use Rattle.std.proofs.lemmas.Bool.Decides.{Decides-eqb}
use Rattle.std.proofs.lemmas.List.Elements.{All-cons, All-head, All-tail}
use Rattle.bridge.specs.RelativeSpans.{moved_to}
use Rattle.tt_data.specs.Forest.{Forest, map_spans}
use Rattle.tt_data.specs.declared.span.Span.{Span}
use Rattle.expander_model.specs.Changes.{outcome_with, Changes, ScopeChange}
use Rattle.expander_model.specs.Definitions.{Definition, definition_of}
use Rattle.expander_model.specs.Expansion.{World, Outcome}
use Rattle.expander_model.specs.Held.{Numbered, Met, Stands, anchored, anchored_definition, first_place, mets_after, numbered_world, nearest_met, numbered_of, numbered_scope, place_of, resolve, present_definition, resolve_definition, present, unnumbered, met_of, with_met, kept_of, kept_after, Tells, IsNumbered, IsMet, HasNumber, StandFromFirst}
use Rattle.expander_model.specs.Meaning.{Layers, Member, plain, defining, definitions_after, member, with_definition, members_after}
use Rattle.expander_model.specs.OtherPlaces.{LooksAtNoPlace, definition_with}
use Rattle.expander_model.specs.Pieces.{first_start, relative}
use Rattle.expander_model.specs.Scoping.{Scoped, found_in, is_found, without_locals}
use Rattle.expander_model.specs.Limits.{expanded}
use Rattle.expander_model.specs.declared.dialect.Dialect.{Dialect}
use Rattle.expander_model.specs.declared.scope_rules.Standing.TheVariants.{Top}
use Rattle.textual_scope.proofs.BoundedLemmas.{outermost-with}
use Rattle.textual_scope.proofs.ChangeLemmas.{is_found-with}
use Rattle.expander_model.proofs.DefinitionPlaceLemmas.{definition_with-same, definition_with-with, definition_of-with}
use Rattle.expander_model.proofs.PlaceLemmas.{own_stands, piece_and_back, resolved_piece}

nat_eq-same : (n : ℕ) → nat_eq n n ≡ true
nat_eq-same n = (Decides-eqb n n).1 refl

pub some_is : {X : Type 0} (x y : X) → Some x ≡ Some y → x ≡ y
some_is x y e = ap (λ (o : Option _). elim o [ Some z ↦ z | None ↦ x ]) e

-- equal numbers, equal definitions
pub same_definition : (table : Forest → ℕ → Type 0) → Tells table → (m k : Numbered)
    → IsNumbered table m → IsNumbered table k → m.number ≡ k.number → m.definition ≡ k.definition
same_definition table tells m k h g e =
    let trees : h.tree ≡ g.tree = tells.apart h.tree g.tree k.number (subst (table h.tree) e h.entry) g.entry in
    some_is _ _ (sym h.definition ∙ ap definition_of trees ∙ g.definition)

-- what is found has the name, and was met
pub record IsFound (dialect : Dialect) (P : Met → Type 0) (name : List ℕ) (m : Met) : Type 0 where
  pub named : is_found dialect m.numbered.definition name ≡ true
  pub is_so : P m

pub found_is : (dialect : Dialect) (P : Met → Type 0) (before : List Met) (name : List ℕ) (m : Met) → All P before → nearest_met dialect before name ≡ Some m → IsFound dialect P name m
found_is dialect P [] name m h e = cc
found_is dialect P (k ∷ before) name m h e = go (found_is dialect P before name m (All-tail P k before h)) (is_found dialect k.numbered.definition name) refl e
  where
    go : (nearest_met dialect before name ≡ Some m → IsFound dialect P name m) → (t : Bool) → is_found dialect k.numbered.definition name ≡ t
        → cond t (Some k) (nearest_met dialect before name) ≡ Some m → IsFound dialect P name m
    go later true named e =
        let same : k ≡ m = some_is k m e in
        record { named = ap (λ (x : Met). is_found dialect x.numbered.definition name) (sym same) ∙ named; is_so = subst P same (All-head P k before h) }
    go later false named e = later e

-- the nearest definition of a name is the nearest of its number
place_found : (dialect : Dialect) (table : Forest → ℕ → Type 0) → Tells table → (before : List Met) (name : List ℕ) (m : Met)
    → All (IsMet table) before → nearest_met dialect before name ≡ Some m → place_of before m.numbered.number ≡ m.place
place_found dialect table tells [] name m h e = cc
place_found dialect table tells (k ∷ before) name m h e =
    go (place_found dialect table tells before name m (All-tail (IsMet table) k before h)) (is_found dialect k.numbered.definition name) refl e
  where
    apart : (nearest_met dialect before name ≡ Some m → place_of before m.numbered.number ≡ m.place) → is_found dialect k.numbered.definition name ≡ false → nearest_met dialect before name ≡ Some m
        → (b : Bool) → nat_eq k.numbered.number m.numbered.number ≡ b → cond b k.place (place_of before m.numbered.number) ≡ m.place
    apart rest named e true equal =
        let found : IsFound dialect (IsMet table) name m = found_is dialect (IsMet table) before name m (All-tail (IsMet table) k before h) e in
        let definitions : k.numbered.definition ≡ m.numbered.definition = same_definition table tells k.numbered m.numbered (All-head (IsMet table) k before h) found.is_so ((Decides-eqb _ _).0 equal) in
        let both : false ≡ true = sym named ∙ ap (λ (d : Definition). is_found dialect d name) definitions ∙ found.named in
        cc
    apart rest named e false other = rest e

    go : (nearest_met dialect before name ≡ Some m → place_of before m.numbered.number ≡ m.place) → (t : Bool) → is_found dialect k.numbered.definition name ≡ t
        → cond t (Some k) (nearest_met dialect before name) ≡ Some m → place_of (k ∷ before) m.numbered.number ≡ m.place
    go rest true named e =
        let same : k ≡ m = some_is k m e in
        subst (λ (x : Met). place_of (k ∷ before) x.numbered.number ≡ x.place) same (ap (λ (b : Bool). cond b k.place (place_of before k.numbered.number)) (nat_eq-same k.numbered.number))
    go rest false named e = apart rest named e (nat_eq k.numbered.number m.numbered.number) refl

-- a met definition in the text is what its number stands for
pub resolved_definition : (dialect : Dialect) (table : Forest → ℕ → Type 0) → Tells table → (start : ℕ) (before : List Met) (name : List ℕ) (m : Met)
    → All (IsMet table) before → nearest_met dialect before name ≡ Some m → present_definition m ≡ resolve_definition start before m.numbered
resolved_definition dialect table tells start before name m h e =
    let is_met : IsMet table m = (found_is dialect (IsMet table) before name m h e).is_so in
    let one : (n : ℕ) × (m.numbered.number ≡ suc n) = tells.positive is_met.tree m.numbered.number is_met.entry in
    let number : m.numbered.number ≡ suc one.0 = one.1 in
    let change : Span → Span = λ s. resolve start before (anchored m.numbered.number s) in
    let place : moved_to m.place ≡ change =
    ap moved_to (sym (place_found dialect table tells before name m h e) ∙ ap (place_of before) number)
    ∙ ap (λ (n : ℕ). λ (s : Span). resolve start before (anchored n s)) (sym number) in
    ap (λ (f : Span → Span). definition_with f m.numbered.definition) place
    ∙ sym (definition_with-with (resolve start before) (anchored m.numbered.number) m.numbered.definition)

nearest_present : (dialect : Dialect) (before : List Met) (name : List ℕ) → found_in dialect (map present_definition before) name ≡ option_map present_definition (nearest_met dialect before name)
nearest_present dialect [] name = refl
nearest_present dialect (m ∷ before) name =
    ap (λ t. cond t (Some (present_definition m)) (found_in dialect (map present_definition before) name))
    (is_found-with (moved_to m.place) dialect m.numbered.definition name)
    ∙ go (nearest_present dialect before name) (is_found dialect m.numbered.definition name)
  where
    go : found_in dialect (map present_definition before) name ≡ option_map present_definition (nearest_met dialect before name)
        → (t : Bool) → cond t (Some (present_definition m)) (found_in dialect (map present_definition before) name) ≡ option_map present_definition (cond t (Some m) (nearest_met dialect before name))
    go rest true = refl
    go rest false = rest

-- a name finds the present form of what it finds by number
pub present_scope : (dialect : Dialect) (table : Forest → ℕ → Type 0) → Tells table → (start : ℕ) (before : List Met)
    → All (IsMet table) before → ScopeChange (resolve_definition start before) (numbered_scope dialect before) (found_in dialect (map present_definition before))
present_scope dialect table tells start before h name = nearest_present dialect before name ∙ go (nearest_met dialect before name) refl
  where
    go : (o : Option Met) → nearest_met dialect before name ≡ o → option_map present_definition o ≡ option_map (resolve_definition start before) (option_map numbered_of o)
    go None e = refl
    go (Some m) e = ap Some (resolved_definition dialect table tells start before name m h e)

-- the worlds of a session and of its text
pub present_world : (world : World Definition) → LooksAtNoPlace world → (start : ℕ) (before : List Met)
    → Changes (resolve start before) (resolve_definition start before) (numbered_world world) world
present_world world law start before = record {
  broken = λ d. law.broken (resolve start before) (anchored_definition d);
  fit = λ d a. law.fit (resolve start before) (λ s. refl) (anchored_definition d) a;
  put_out = λ d a. law.put_out (resolve start before) (λ s. refl) (anchored_definition d) a;
  bursts = λ d a. law.bursts (resolve start before) (λ s. refl) (anchored_definition d) a;
}

-- a piece's expansion in places of its own, taken to the text, is its expansion there
pub resolved_expansion : (world : World Definition) → LooksAtNoPlace world → (table : Forest → ℕ → Type 0) → Tells table
    → (start : ℕ) (before : List Met) → All (IsMet table) before → (depth : ℕ) (tree : Forest)
    → expanded world (λ d. d) (found_in world.dialect (map present_definition before)) depth (map_spans (resolve start before) tree)
    ≡ outcome_with (resolve start before) (resolve_definition start before) (expanded (numbered_world world) unnumbered (numbered_scope world.dialect before) depth tree)
resolved_expansion world law table tells start before h depth tree =
    ap (λ (a : Scoped Definition). a.outcome)
    (outermost-with (resolve start before) (resolve_definition start before) world.dialect (numbered_world world) world (present_world world law start before) unnumbered (λ d. d)
    (λ d. ap (definition_with (resolve start before)) (sym (definition_with-same d)))
    (numbered_scope world.dialect before) (found_in world.dialect (map present_definition before)) (present_scope world.dialect table tells start before h) world.dialect.limits depth (without_locals Top None) tree)

-- a definition of any text, by its piece-relative tree
pub definition_there : (p : Forest) → Stands p → definition_of p ≡ option_map (definition_with (moved_to (first_place p))) (definition_of (relative p))
definition_there p h = ap definition_of (sym (piece_and_back (first_place p) p h)) ∙ definition_of-with (moved_to (first_place p)) (relative p)

-- the definitions in scope are those of the pieces with piece-relative spans, taken to their texts
pub definitions_present : (world : World Definition) (depth : ℕ) (number_of : Forest → ℕ) (before : List Met) (ps : List Forest) → All Stands ps
    → definitions_after (map present_definition before) ps ≡ map present_definition (mets_after world depth number_of before ps)
definitions_present world depth number_of before [] h = refl
definitions_present world depth number_of before (p ∷ ps) h =
    ap (λ (o : Option Definition). definitions_after (with_definition o (map present_definition before)) ps)
    (definition_there p (All-head Stands p ps h))
    ∙ go (definition_of (relative p)) (λ now. definitions_present world depth number_of now ps (All-tail Stands p ps h))
  where
    go : (o : Option Definition)
        → ((now : List Met) → definitions_after (map present_definition now) ps ≡ map present_definition (mets_after world depth number_of now ps))
        → definitions_after (with_definition (option_map (definition_with (moved_to (first_place p))) o) (map present_definition before)) ps
        ≡ map present_definition (mets_after world depth number_of (with_met world depth number_of p o before) ps)
    go None later = later before
    go (Some d) later = later (met_of world depth number_of p d ∷ before)

-- the members of a text are its pieces in places of their own, taken to the text
pub members_present : (layers : Layers) → LooksAtNoPlace layers.world → (table : Forest → ℕ → Type 0) → Tells table → (number_of : Forest → ℕ) (depth : ℕ)
    → (before : List Met) → All (IsMet table) before → (ps : List Forest) → All StandFromFirst ps → All (HasNumber table number_of) ps
    → members_after layers depth (map present_definition before) ps ≡ map present (kept_after layers.world depth number_of before ps)
members_present layers law table tells number_of depth before h [] g n = refl
members_present layers law table tells number_of depth before h (p ∷ ps) g n =
    let from : StandFromFirst p = All-head StandFromFirst p ps g in
    ap (λ (o : Option Definition). member layers depth (map present_definition before) p o ∷ members_after layers depth (with_definition o (map present_definition before)) ps)
    (definition_there p (own_stands p from))
    ∙ go from (All-head (HasNumber table number_of) p ps n)
    (λ now are. members_present layers law table tells number_of depth now are ps (All-tail StandFromFirst p ps g) (All-tail (HasNumber table number_of) p ps n))
    (definition_of (relative p)) refl
  where
    go : StandFromFirst p → HasNumber table number_of p → ((now : List Met) → All (IsMet table) now
        → members_after layers depth (map present_definition now) ps ≡ map present (kept_after layers.world depth number_of now ps))
        → (o : Option Definition) → definition_of (relative p) ≡ o
        → member layers depth (map present_definition before) p (option_map (definition_with (moved_to (first_place p))) o)
        ∷ members_after layers depth (with_definition (option_map (definition_with (moved_to (first_place p))) o) (map present_definition before)) ps
        ≡ map present (kept_of layers.world depth number_of before p o ∷ kept_after layers.world depth number_of (with_met layers.world depth number_of p o before) ps)
    go from numbered later (Some d) e =
        let here : IsMet table (met_of layers.world depth number_of p d) =
        record { tree = relative p; entry = numbered d e; definition = e } in
        ap (λ (ms : List Member). defining (definition_with (moved_to (first_place p)) d) ∷ ms)
        (later (met_of layers.world depth number_of p d ∷ before) (All-cons (IsMet table) (met_of layers.world depth number_of p d) before here h))
    go from numbered later None e =
        let there : map_spans (resolve (first_start p) before) (relative p) ≡ p = resolved_piece (first_start p) before p from in
        let scope : List ℕ → Option Definition = found_in layers.world.dialect (map present_definition before) in
        let rest : List Member = members_after layers depth (map present_definition before) ps in
        ap (λ (q : Forest). plain q (expanded layers.world (λ d. d) scope depth q) ∷ rest) (sym there)
        ∙ ap (λ (o : Outcome Definition). plain (map_spans (resolve (first_start p) before) (relative p)) o ∷ rest)
        (resolved_expansion layers.world law table tells (first_start p) before h depth (relative p))
        ∙ ap (λ (ms : List Member). present (kept_of layers.world depth number_of before p None) ∷ ms)
        (later before h)
