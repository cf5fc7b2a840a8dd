-- A forest expands to the same in two scopes that agree on its look-ups.
use Rattle.std.proofs.Common.{◌≡◌, ℕ, zero, suc, Bool, true, false, List, [], ◌∷◌, ◌++◌, Option, Some, None, refl, ap, ◌∙◌, unwrap_or}
use Rattle.tt_data.specs.Forest.{Forest}
use Rattle.tt_data.specs.Walk.{at_leaf, walk}
use Rattle.tt_data.specs.declared.leaf.Ident.{Ident}
use Rattle.tt_data.specs.declared.span.Span.{Span}
use Rattle.expander_model.specs.Calls.{Path, bare, from_crate, other, Marked, none, token, inside, call, key_of, marked, unmarked}
use Rattle.expander_model.specs.Expansion.{World, Outcome, Deeper, CallSite, just, followed_by, grouped, found, fitted, bursting, at_level, unbroken, looked_up, at_call, before_group, whole_call, search_calls, expansion}
use Rattle.expander_session.specs.Agreement.{FoundIn}

pub front_found : {D : Type 0} → (scope : List ℕ → Option D) (a b : List (List ℕ × Option D)) → FoundIn scope (a ++ b) → FoundIn scope a
front_found scope [] b h = tt
front_found scope (x ∷ a) b h = (h.0, front_found scope a b h.1)

pub back_found : {D : Type 0} → (scope : List ℕ → Option D) (a b : List (List ℕ × Option D)) → FoundIn scope (a ++ b) → FoundIn scope b
back_found scope [] b h = h
back_found scope (x ∷ a) b h = back_found scope a b h.1

-- what results are expanded by is the same wherever the second scope has the first's finds
abbrev SameDeeper : {D : Type 0} → (List ℕ → Option D) → Deeper D → Deeper D → Type 0
SameDeeper scope None None = Unit {0}
SameDeeper scope (Some one) (Some two) = (outer : Option Span) (f : Forest) → FoundIn scope (one outer f).finds → two outer f ≡ one outer f
SameDeeper scope None (Some two) = ⊥
SameDeeper scope (Some one) None = ⊥

same_fitted : {D : Type 0} → (scope : List ℕ → Option D) (one two : Option Span → Forest → Outcome D)
    → ((outer : Option Span) (f : Forest) → FoundIn scope (one outer f).finds → two outer f ≡ one outer f)
    → (outer : Option Span) (site : CallSite) (r : Option Forest) → FoundIn scope (fitted one outer site r).finds → fitted two outer site r ≡ fitted one outer site r
same_fitted scope one two same outer site None h = refl
same_fitted scope one two same outer site (Some g) h = same (Some (unwrap_or outer site.at)) g h

same_level : {D : Type 0} → (world : World D) (scope : List ℕ → Option D) (d : D) (one two : Deeper D) → SameDeeper scope one two
    → (outer : Option Span) (site : CallSite) → FoundIn scope (at_level world d one outer site).finds
    → at_level world d two outer site ≡ at_level world d one outer site
same_level world scope d None None same outer site h = refl
same_level world scope d (Some one) (Some two) same outer site h = ap (bursting (world.bursts d site.argument)) (same_fitted scope one two same outer site (world.fit d site.argument) h)
same_level world scope d None (Some two) same outer site h = absurd same
same_level world scope d (Some one) None same outer site h = absurd same

same_unbroken : {D : Type 0} → (world : World D) (scope : List ℕ → Option D) (d : D) (b : Bool) (one two : Deeper D) → SameDeeper scope one two
    → (outer : Option Span) (site : CallSite) → FoundIn scope (unbroken world d b one outer site).finds
    → unbroken world d b two outer site ≡ unbroken world d b one outer site
same_unbroken world scope d true one two same outer site h = refl
same_unbroken world scope d false one two same outer site h = same_level world scope d one two same outer site h

same_looked_up : {D : Type 0} → (world : World D) (scope : List ℕ → Option D) (definition : Option D) (one two : Deeper D) → SameDeeper scope one two
    → (outer : Option Span) (site : CallSite) (kept kept' : Outcome D) → (FoundIn scope kept.finds → kept' ≡ kept)
    → FoundIn scope (looked_up world definition one outer site kept).finds
    → looked_up world definition two outer site kept' ≡ looked_up world definition one outer site kept
same_looked_up world scope None one two same outer site kept kept' stays h = stays h
same_looked_up world scope (Some d) one two same outer site kept kept' stays h = same_unbroken world scope d (world.broken d) one two same outer site h

same_found : {D : Type 0} → (world : World D) (scope other_scope : List ℕ → Option D) (one two : Deeper D) → SameDeeper other_scope one two
    → (outer : Option Span) (key : List ℕ) (site : CallSite) (kept kept' : Outcome D) → (FoundIn other_scope kept.finds → kept' ≡ kept)
    → FoundIn other_scope (found key (scope key) (looked_up world (scope key) one outer site kept)).finds
    → found key (other_scope key) (looked_up world (other_scope key) two outer site kept')
    ≡ found key (scope key) (looked_up world (scope key) one outer site kept)
same_found world scope other_scope one two same outer key site kept kept' stays h =
    ap (λ d. found key d (looked_up world d two outer site kept')) h.0
    ∙ ap (found key (scope key)) (same_looked_up world other_scope (scope key) one two same outer site kept kept' stays h.1)

same_call : {D : Type 0} → (world : World D) (scope other_scope : List ℕ → Option D) (one two : Deeper D) → SameDeeper other_scope one two
    → (outer : Option Span) (path : Path) (name : Ident) (site : CallSite) (kept kept' : Outcome D) → (FoundIn other_scope kept.finds → kept' ≡ kept)
    → FoundIn other_scope (at_call world scope one outer path name site kept).finds
    → at_call world other_scope two outer path name site kept' ≡ at_call world scope one outer path name site kept
same_call world scope other_scope one two same outer bare name site kept kept' stays h = same_found world scope other_scope one two same outer name.sym site kept kept' stays h
same_call world scope other_scope one two same outer (from_crate k c e) name site kept kept' stays h =
    same_found world scope other_scope one two same outer (key_of (from_crate k c e) name) site kept kept' stays h
same_call world scope other_scope one two same outer (other c e) name site kept kept' stays h = stays h

same_search : {D : Type 0} → (world : World D) (scope other_scope : List ℕ → Option D) (one two : Deeper D) → SameDeeper other_scope one two
    → (outer : Option Span) (m : Marked) → FoundIn other_scope (search_calls world scope one outer m).finds
    → search_calls world other_scope two outer m ≡ search_calls world scope one outer m
same_search world scope other_scope one two same outer none h = refl
same_search world scope other_scope one two same outer (token l rest) h =
    ap (followed_by (just outer (at_leaf l ∷ []))) (same_search world scope other_scope one two same outer rest h)
same_search world scope other_scope one two same outer (inside d a rest) h =
    let first = front_found other_scope (search_calls world scope one outer a).finds (search_calls world scope one outer rest).finds h in
    let second = back_found other_scope (search_calls world scope one outer a).finds (search_calls world scope one outer rest).finds h in
    ap (λ x. followed_by (grouped outer d x) (search_calls world other_scope two outer rest)) (same_search world scope other_scope one two same outer a first)
    ∙ ap (followed_by (grouped outer d (search_calls world scope one outer a))) (same_search world scope other_scope one two same outer rest second)
same_search {D} world scope other_scope one two same outer (call path name bang d a rest) h =
    let site : CallSite = record { at = name.span; whole = whole_call path name bang d (unmarked a); argument = unmarked a } in
    let lead : Outcome D = just outer (walk (before_group path name bang)) in
    let kept = followed_by lead (grouped outer d (search_calls world scope one outer a)) in
    let kept' = followed_by lead (grouped outer d (search_calls world other_scope two outer a)) in
    let here = at_call world scope one outer path name site kept in
    let first = front_found other_scope here.finds (search_calls world scope one outer rest).finds h in
    let second = back_found other_scope here.finds (search_calls world scope one outer rest).finds h in
    ap (λ x. followed_by x (search_calls world other_scope two outer rest))
    (same_call world scope other_scope one two same outer path name site kept kept'
    (λ k. ap (λ x. followed_by lead (grouped outer d x)) (same_search world scope other_scope one two same outer a k)) first)
    ∙ ap (followed_by here) (same_search world scope other_scope one two same outer rest second)

-- the law
pub same_expansion : {D : Type 0} → (world : World D) (scope other_scope : List ℕ → Option D) (n : ℕ) (outer : Option Span) (f : Forest)
    → FoundIn other_scope (expansion world scope n outer f).finds → expansion world other_scope n outer f ≡ expansion world scope n outer f
same_expansion world scope other_scope zero outer f h = same_search world scope other_scope None None tt outer (marked f) h
same_expansion world scope other_scope (suc n) outer f h =
    same_search world scope other_scope (Some (expansion world scope n)) (Some (expansion world other_scope n))
    (λ o g k. same_expansion world scope other_scope n o g k) outer (marked f) h
