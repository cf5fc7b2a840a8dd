-- The look-ups of a piece are what its scope finds, and its expansion depends on nothing else.
use Rattle.std.proofs.Common.{◌≡◌, ℕ, zero, suc, Bool, true, false, cond, List, [], ◌∷◌, ◌++◌, Option, Some, None, refl, ap, sym, subst, ◌∙◌, unwrap_or, append_assoc}
use Rattle.std.proofs.lemmas.Slice.Eq.{bytes_eq-Decides}
use Rattle.tt_data.specs.Forest.{Forest}
use Rattle.tt_data.specs.Walk.{walk}
use Rattle.tt_data.specs.declared.leaf.Ident.{Ident}
use Rattle.tt_data.specs.declared.span.Span.{Span}
use Rattle.expander_model.specs.Calls.{Path, bare, from_crate, other, Marked, none, token, inside, call, key_of, marked, unmarked}
use Rattle.expander_model.specs.Expansion.{World, Outcome, Deeper, CallSite, just, followed_by, grouped, fitted, at_level, unbroken, looked_up, at_call, before_group, whole_call, search_calls, expansion}
use Rattle.small_grammar.specs.Text.{same_text}
use Rattle.expander_session.specs.Agreement.{FoundIn, scope_of}
use Rattle.expander_session.proofs.AgreementLemmas.{same_expansion}

join_found : {D : Type 0} → (scope : List ℕ → Option D) (a b : List (List ℕ × Option D)) → FoundIn scope a → FoundIn scope b → FoundIn scope (a ++ b)
join_found scope [] b h k = k
join_found scope (x ∷ a) b h k = (h.0, join_found scope a b h.1 k)

abbrev DeeperFound : {D : Type 0} → (List ℕ → Option D) → Deeper D → Type 0
DeeperFound scope None = Unit {0}
DeeperFound scope (Some deeper) = (outer : Option Span) (f : Forest) → FoundIn scope (deeper outer f).finds

fitted_found : {D : Type 0} → (scope : List ℕ → Option D) (deeper : Option Span → Forest → Outcome D) → ((outer : Option Span) (f : Forest) → FoundIn scope (deeper outer f).finds)
    → (outer : Option Span) (site : CallSite) (r : Option Forest) → FoundIn scope (fitted deeper outer site r).finds
fitted_found scope deeper all outer site None = tt
fitted_found scope deeper all outer site (Some g) = all (Some (unwrap_or outer site.at)) g

level_found : {D : Type 0} → (world : World D) (scope : List ℕ → Option D) (d : D) (deeper : Deeper D) → DeeperFound scope deeper
    → (outer : Option Span) (site : CallSite) → FoundIn scope (at_level world d deeper outer site).finds
level_found world scope d None all outer site = tt
level_found world scope d (Some deeper) all outer site = fitted_found scope deeper all outer site (world.fit d site.argument)

unbroken_found : {D : Type 0} → (world : World D) (scope : List ℕ → Option D) (d : D) (b : Bool) (deeper : Deeper D) → DeeperFound scope deeper
    → (outer : Option Span) (site : CallSite) → FoundIn scope (unbroken world d b deeper outer site).finds
unbroken_found world scope d true deeper all outer site = tt
unbroken_found world scope d false deeper all outer site = level_found world scope d deeper all outer site

looked_up_found : {D : Type 0} → (world : World D) (scope : List ℕ → Option D) (r : Option D) (deeper : Deeper D) → DeeperFound scope deeper
    → (outer : Option Span) (site : CallSite) (kept : Outcome D) → FoundIn scope kept.finds → FoundIn scope (looked_up world r deeper outer site kept).finds
looked_up_found world scope None deeper all outer site kept h = h
looked_up_found world scope (Some d) deeper all outer site kept h = unbroken_found world scope d (world.broken d) deeper all outer site

call_found : {D : Type 0} → (world : World D) (scope : List ℕ → Option D) (deeper : Deeper D) → DeeperFound scope deeper
    → (outer : Option Span) (path : Path) (name : Ident) (site : CallSite) (kept : Outcome D) → FoundIn scope kept.finds → FoundIn scope (at_call world scope deeper outer path name site kept).finds
call_found world scope deeper all outer bare name site kept h = (refl, looked_up_found world scope (scope name.sym) deeper all outer site kept h)
call_found world scope deeper all outer (from_crate k c e) name site kept h =
    (refl, looked_up_found world scope (scope (key_of (from_crate k c e) name)) deeper all outer site kept h)
call_found world scope deeper all outer (other c e) name site kept h = h

search_found : {D : Type 0} → (world : World D) (scope : List ℕ → Option D) (deeper : Deeper D) → DeeperFound scope deeper
    → (outer : Option Span) (m : Marked) → FoundIn scope (search_calls world scope deeper outer m).finds
search_found world scope deeper all outer none = tt
search_found world scope deeper all outer (token l rest) = search_found world scope deeper all outer rest
search_found world scope deeper all outer (inside d a rest) =
    join_found scope (search_calls world scope deeper outer a).finds (search_calls world scope deeper outer rest).finds
    (search_found world scope deeper all outer a) (search_found world scope deeper all outer rest)
search_found world scope deeper all outer (call path name bang d a rest) =
    let site : CallSite = record { at = name.span; whole = whole_call path name bang d (unmarked a); argument = unmarked a } in
    let kept = followed_by (just outer (walk (before_group path name bang))) (grouped outer d (search_calls world scope deeper outer a)) in
    join_found scope (at_call world scope deeper outer path name site kept).finds (search_calls world scope deeper outer rest).finds
    (call_found world scope deeper all outer path name site kept (search_found world scope deeper all outer a)) (search_found world scope deeper all outer rest)

-- each name that was looked up is found so in the scope of the expansion
pub expansion_found : {D : Type 0} → (world : World D) (scope : List ℕ → Option D) (n : ℕ) (outer : Option Span) (f : Forest) → FoundIn scope (expansion world scope n outer f).finds
expansion_found world scope zero outer f = search_found world scope None tt outer (marked f)
expansion_found world scope (suc n) outer f = search_found world scope (Some (expansion world scope n)) (λ o g. expansion_found world scope n o g) outer (marked f)

abbrev FindsList : Type 0 → Type 0
FindsList D = List (List ℕ × Option D)

-- the first of a name is what the scope finds
first_found : {D : Type 0} → (scope : List ℕ → Option D) (b finds : FindsList D) (x : List ℕ × Option D) → FoundIn scope b → scope x.0 ≡ x.1 → scope_of (b ++ x ∷ finds) x.0 ≡ x.1
first_found scope [] finds x k h = ap (λ (t : Bool). cond t x.1 (scope_of finds x.0)) ((bytes_eq-Decides x.0 x.0).1 refl)
first_found {D} scope (y ∷ b) finds x k h = go (first_found scope b finds x k.1 h) (same_text y.0 x.0) refl
  where
    go : scope_of (b ++ x ∷ finds) x.0 ≡ x.1 → (t : Bool) → same_text y.0 x.0 ≡ t → cond t y.1 (scope_of (b ++ x ∷ finds) x.0) ≡ x.1
    go later true e = sym k.0 ∙ ap scope ((bytes_eq-Decides y.0 x.0).0 e) ∙ h
    go later false e = later

-- A scope made of finds of one scope has them.
pub made_finds : {D : Type 0} → (scope : List ℕ → Option D) (finds : FindsList D) → FoundIn scope finds → (before : FindsList D) → FoundIn scope before
    → FoundIn (scope_of (before ++ finds)) finds
made_finds scope [] h before k = tt
made_finds {D} scope (x ∷ finds) h before k = (
  first_found scope before finds x k h.0,
  subst (λ (fs : FindsList D). FoundIn (scope_of fs) finds) (append_assoc before (x ∷ []) finds) (made_finds scope finds h.1 (before ++ x ∷ []) (join_found scope before (x ∷ []) k (h.0, tt))),
)

-- an expansion is that under the scope made of its finds: what a held piece keeps of a scope
pub expansion_by_finds : {D : Type 0} → (world : World D) (scope : List ℕ → Option D) (n : ℕ) (outer : Option Span) (f : Forest)
    → expansion world (scope_of (expansion world scope n outer f).finds) n outer f ≡ expansion world scope n outer f
expansion_by_finds world scope n outer f =
    let finds = (expansion world scope n outer f).finds in
    same_expansion world scope (scope_of finds) n outer f (made_finds scope finds (expansion_found world scope n outer f) [] tt)
