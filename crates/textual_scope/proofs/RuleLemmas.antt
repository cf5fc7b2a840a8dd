-- What the scope rules have in common with expansions that know no lists.
use Rattle.std.proofs.Common.{◌≡◌, inl, inr, ℕ, List, [], ◌∷◌, Bool, true, false, Option, Some, None, Result, Ok, Err, refl, subst, sym, ap, ◌∙◌, if◌then◌else◌}
use Rattle.std.specs.Prelude.{All}
use Rattle.std.proofs.lemmas.List.Elements.{All-cons, All-head, All-tail}
use Rattle.tt_data.specs.Forest.{Forest}
use Rattle.bridge.specs.declared.reading.outcome.ReadFault.{ReadFault}
use Rattle.small_grammar.specs.Text.{same_text}
use Rattle.expander_model.specs.Calls.{Marked, none, token, inside, call, marked, unmarked}
use Rattle.expander_model.specs.Definitions.{Definition, definition_of, nearest}
use Rattle.expander_model.specs.Expansion.{World, expansion}
use Rattle.expander_model.specs.Meaning.{Layers, plain, with_definition, member, members_after, meaning_of, meaning_over, meaning_in}
use Rattle.expander_model.specs.declared.scope_rules.ScopeRules.{ScopeRules}
use Rattle.expander_model.specs.Dialects as dialects
use Rattle.expander_model.specs.Pieces.{cut, pieces}
use Rattle.expander_model.specs.declared.dialect.Dialect.{Dialect}
use Rattle.expander_model.specs.Limits.{outermost, expanded}
use Rattle.expander_model.specs.declared.limits.Limits.{Limits}
use Rattle.expander_model.specs.declared.scope_rules.ScopeRules.TheVariants.{TopLevel, Rust}
use Rattle.textual_scope.specs.Keywords.{HasNoKeyword, AddsNoKeyword, NestsNone}
use Rattle.textual_scope.specs.TopLevelMeaning.{top_member, top_members, top_over, top_meaning}
use Rattle.expander_model.specs.declared.scope_rules.Standing.TheVariants.{Top}
use Rattle.expander_model.specs.declared.scope_rules.Standing.{Standing}
use Rattle.expander_model.specs.Scoping.{without_locals, Scoped, found_in, is_out, only, scoped}
use Rattle.textual_scope.proofs.KeywordLemmas.{plain_pieces, none_inside}
use Rattle.textual_scope.proofs.MarkLemmas.{AllInside}
use Rattle.textual_scope.proofs.PlainLemmas.{as_outermost, ArePlain, HasNone, as_expansion}

abbrev Any : Forest → Type 0
Any f = Unit {0}

any_inside : (m : Marked) → AllInside (λ a. Any (unmarked a)) m
any_inside none = tt
any_inside (token l m) = any_inside m
any_inside (inside d a m) = (tt, any_inside m)
any_inside (call path name bang d a m) = (tt, any_inside m)

any_pieces : (ps : List Forest) → ArePlain TopLevel Any ps
any_pieces [] = tt
any_pieces (p ∷ ps) = (refl, tt, any_pieces ps)

-- what has no definition by Rust's rules has none by any
plain_by : (Plain : Forest → Type 0) (rules : ScopeRules) (ps : List Forest) → ArePlain Rust Plain ps → ArePlain rules Plain ps
plain_by Plain rules [] h = tt
plain_by Plain TopLevel (p ∷ ps) h = (refl, h.1, plain_by Plain TopLevel ps h.2)
plain_by Plain Rust (p ∷ ps) h = h

module _ {D : Type 0} (world : World D) (local : Definition → D) (scope : List ℕ → Option D) where
  -- under `TopLevel` no list has definitions
  top_level_none : HasNone dialects.top_level world scope Any
  top_level_none = record {
    in_parts = λ f h. any_pieces (cut f);
    keeps = inl refl;
    tells = inl refl;
    whole = refl;
    inner = λ f h. any_inside (marked f);
    results = λ key d e argument result h fit. tt;
  }

  pub top_level : (depth : ℕ) (standing : Standing) (outer : Option _) (f : Forest)
      → scoped dialects.top_level world local scope depth (without_locals standing outer) f ≡ only (expansion world scope depth outer f)
  top_level depth standing outer f = as_expansion dialects.top_level world local scope Any top_level_none depth standing outer f tt

  -- a tree is expanded as if no list had definitions
  pub top_expanded : world.dialect ≡ dialects.top_level → (depth : ℕ) (f : Forest) → expanded world local scope depth f ≡ expansion world scope depth None f
  top_expanded is depth f =
      subst (λ r. (outermost r world local scope r.limits depth (without_locals Top None) f).outcome ≡ expansion world scope depth None f) (sym is)
      (ap (λ (a : Scoped D). a.outcome) (top_level depth Top None f))

-- without keywords no list has any by Rust's rules either
without_keywords : (dialect : Dialect) → dialect.items ≡ false → dialect.excuses ≡ false → dialect.cfg ≡ None → (world : World Definition) (scope : List ℕ → Option Definition)
    → ((key : List ℕ) (d : Definition) → scope key ≡ Some d → AddsNoKeyword world d) → HasNone dialect world scope HasNoKeyword
without_keywords dialect keeps tells whole world scope adds = record {
  in_parts = λ f h. plain_by HasNoKeyword dialect.scope (cut f) (plain_pieces f h);
  keeps = inl keeps;
  tells = inl tells;
  whole = whole;
  inner = none_inside;
  results = λ key d e argument result h fit. adds key d e argument result h fit;
}

module _ (world : World Definition) (local : Definition → Definition) (scope : List ℕ → Option Definition)
    (adds : (key : List ℕ) (d : Definition) → scope key ≡ Some d → AddsNoKeyword world d) where
  -- by either rules, where each `;` stays
  pub no_keyword_in : (dialect : Dialect) → dialect.items ≡ false → dialect.excuses ≡ false → dialect.cfg ≡ None → (depth : ℕ) (standing : Standing) (outer : Option _) (f : Forest) → HasNoKeyword f
      → scoped dialect world local scope depth (without_locals standing outer) f ≡ only (expansion world scope depth outer f)
  no_keyword_in dialect keeps tells whole depth standing outer f h =
      as_expansion dialect world local scope HasNoKeyword (without_keywords dialect keeps tells whole world scope adds) depth standing outer f h

  pub wordless_expanded : world.dialect.items ≡ false → world.dialect.excuses ≡ false → world.dialect.cfg ≡ None → world.dialect.limits ≡ None → (depth : ℕ) (f : Forest) → HasNoKeyword f
      → expanded world local scope depth f ≡ expansion world scope depth None f
  wordless_expanded keeps tells whole free depth f h =
      ap (λ l. (outermost world.dialect world local scope l depth (without_locals Top None) f).outcome) free
      ∙ ap (λ (a : Scoped Definition). a.outcome) (no_keyword_in world.dialect keeps tells whole depth Top None f h)

-- where names find nothing outside of lists, trees have no definitions if by the rules they have no keyword of one
module _ {D : Type 0} (world : World D) (local : Definition → D) (limits : Option Limits) (depth : ℕ) (f : Forest) where
  abbrev Unfound : Dialect → Type 0
  Unfound dialect = outermost dialect world local (λ key. None) limits depth (without_locals Top None) f ≡ only (expansion world (λ key. None) depth None f)

  unfound_by : (rules : ScopeRules) (items excuses : Bool) (own : Option Limits) → (rules ≡ Rust → HasNoKeyword f) → Unfound (record { scope = rules; items = items; cfg = None; limits = own; excuses = excuses })
  unfound_by TopLevel items excuses own h =
      let dialect : Dialect = record { scope = TopLevel; items = items; cfg = None; limits = own; excuses = excuses } in
      as_outermost dialect world local (λ key. None) Any
      (record {
        in_parts = λ g k. any_pieces (cut g);
        keeps = inr (λ key. refl);
        tells = inr (λ key. refl);
        whole = refl;
        inner = λ g k. any_inside (marked g);
        results = λ key d e argument result k fit. tt;
      }) (λ key. refl) limits depth Top None f tt
  unfound_by Rust items excuses own h =
      let dialect : Dialect = record { scope = Rust; items = items; cfg = None; limits = own; excuses = excuses } in
      as_outermost dialect world local (λ key. None) HasNoKeyword
      (record {
        in_parts = plain_pieces;
        keeps = inr (λ key. refl);
        tells = inr (λ key. refl);
        whole = refl;
        inner = none_inside;
        results = λ key d e argument result k fit. absurd (cc e);
      }) (λ key. refl) limits depth Top None f (h refl)

  pub unfound_outermost : (dialect : Dialect) → dialect.cfg ≡ None → (dialect.scope ≡ Rust → HasNoKeyword f) → Unfound dialect
  unfound_outermost dialect whole h =
      subst (λ c. Unfound (record { scope = dialect.scope; items = dialect.items; cfg = c; limits = dialect.limits; excuses = dialect.excuses })) (sym whole)
      (unfound_by dialect.scope dialect.items dialect.excuses dialect.limits h)

-- what the nearest definition of a name has, if all definitions have it
nearest_has : (P : Definition → Type 0) (before : List Definition) → All P before → (key : List ℕ) (d : Definition) → nearest before key ≡ Some d → P d
nearest_has P [] all key d e = absurd (cc e)
nearest_has P (x ∷ before) all key d e = go (same_text x.name.sym key) e (nearest_has P before (All-tail P x before all) key d)
  where
    go : (b : Bool) → (if b then Some x else nearest before key) ≡ Some d → (nearest before key ≡ Some d → P d) → P d
    go true h more = let is : x ≡ d = cc in subst P is (All-head P x before all)
    go false h more = more h

-- where nothing is left out, the nearest is found
found_all : (dialect : Dialect) → dialect.cfg ≡ None → (before : List Definition) (name : List ℕ) → found_in dialect before name ≡ nearest before name
found_all dialect whole [] name = refl
found_all dialect whole (d ∷ before) name =
    ap (λ c. if (if is_out c Top d.piece then false else same_text d.name.sym name) then Some d else found_in dialect before name) whole
    ∙ ap (λ o. if same_text d.name.sym name then Some d else o) (found_all dialect whole before name)

module _ (layers : Layers) (depth : ℕ) where
  same_found : layers.world.dialect.cfg ≡ None → (before : List Definition) → found_in layers.world.dialect before ≡ nearest before
  same_found whole before = λ i name. found_all layers.world.dialect whole before name i

  top_level_members : layers.world.dialect ≡ dialects.top_level → (before : List Definition) (ps : List Forest) → members_after layers depth before ps ≡ top_members layers depth before ps
  top_level_members is before [] = refl
  top_level_members is before (p ∷ ps) =
      ap (λ m. m ∷ members_after layers depth (with_definition (definition_of p) before) ps) (go (definition_of p))
      ∙ ap (λ ms. top_member layers depth before p (definition_of p) ∷ ms) (top_level_members is (with_definition (definition_of p) before) ps)
    where
      go : (d : Option Definition) → member layers depth before p d ≡ top_member layers depth before p d
      go (Some d) = refl
      go None =
          ap (λ (s : List ℕ → Option Definition). plain p (expanded layers.world (λ d. d) s depth p)) (same_found (ap (λ (d : Dialect). d.cfg) is) before)
          ∙ ap (plain p) (top_expanded layers.world (λ d. d) (nearest before) is depth p)

  abbrev Nests : Forest → Type 0
  Nests p = NestsNone layers.world p (definition_of p)

  same_members : layers.world.dialect.items ≡ false → layers.world.dialect.excuses ≡ false → layers.world.dialect.cfg ≡ None → layers.world.dialect.limits ≡ None → (before : List Definition) (ps : List Forest) → All (AddsNoKeyword layers.world) before → All Nests ps
      → members_after layers depth before ps ≡ top_members layers depth before ps
  same_members keeps tells whole free before [] adds nests = refl
  same_members keeps tells whole free before (p ∷ ps) adds nests =
      ap (λ m. m ∷ members_after layers depth (with_definition (definition_of p) before) ps) (here (definition_of p) (All-head Nests p ps nests))
      ∙ ap (λ ms. top_member layers depth before p (definition_of p) ∷ ms)
      (same_members keeps tells whole free (with_definition (definition_of p) before) ps (more (definition_of p) (All-head Nests p ps nests)) (All-tail Nests p ps nests))
    where
      here : (d : Option Definition) → NestsNone layers.world p d → member layers depth before p d ≡ top_member layers depth before p d
      here (Some d) h = refl
      here None h =
          ap (λ (s : List ℕ → Option Definition). plain p (expanded layers.world (λ d. d) s depth p)) (same_found whole before)
          ∙ ap (plain p) (wordless_expanded layers.world (λ d. d) (nearest before) (nearest_has (AddsNoKeyword layers.world) before adds) keeps tells whole free depth p h)

      more : (d : Option Definition) → NestsNone layers.world p d → All (AddsNoKeyword layers.world) (with_definition d before)
      more None h = adds
      more (Some d) h = All-cons (AddsNoKeyword layers.world) d before h adds

  pub top_level_meaning : layers.world.dialect ≡ dialects.top_level → (initial : List Definition) (text : List ℕ) → meaning_in layers depth initial text ≡ top_meaning layers depth initial text
  top_level_meaning is initial text = go (layers.read text)
    where
      go : (read : Result Forest ReadFault) → meaning_over layers depth initial read ≡ top_over layers depth initial read
      go (Err fault) = refl
      go (Ok f) = ap (λ ms. Ok (meaning_of layers ms)) (top_level_members is initial (pieces f))

  pub same_meaning : layers.world.dialect.items ≡ false → layers.world.dialect.excuses ≡ false → layers.world.dialect.cfg ≡ None → layers.world.dialect.limits ≡ None → (initial : List Definition) (text : List ℕ) (f : Forest) → layers.read text ≡ Ok f
      → All (AddsNoKeyword layers.world) initial → All Nests (pieces f)
      → meaning_in layers depth initial text ≡ top_meaning layers depth initial text
  same_meaning keeps tells whole free initial text f e adds nests =
      rw e (ap (λ ms. Ok (meaning_of layers ms)) (same_members keeps tells whole free initial (pieces f) adds nests))
