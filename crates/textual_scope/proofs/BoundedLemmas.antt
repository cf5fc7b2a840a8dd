-- Expansions by limits: what they depend on, and at other spans.
use Rattle.std.proofs.Common.{◌≡◌, ℕ, zero, suc, ◌-◌, Bool, true, false, List, [], ◌∷◌, ◌++◌, map, Option, Some, None, refl, sym, ap, subst, ◌∙◌, option_map, if◌then◌else◌}
use Rattle.std.specs.Prelude.{All, ◌||◌, nat_lt}
use Rattle.std.proofs.lemmas.List.Elements.{All-nil, All-cons, All-head, All-tail}
use Rattle.tt_data.specs.Forest.{Forest, map_spans, size}
use Rattle.tt_data.proofs.ForestLemmas.{size-map_spans}
use Rattle.tt_data.specs.declared.span.Span.{Span}
use Rattle.expander_model.specs.Changes.{Changes, ScopeChange, find_with, outcome_with}
use Rattle.expander_model.specs.Definitions.{Definition}
use Rattle.expander_model.specs.Expansion.{World, Outcome, CallSite}
use Rattle.expander_model.specs.OtherPlaces.{definition_with}
use Rattle.expander_model.specs.declared.dialect.Dialect.{Dialect}
use Rattle.expander_model.specs.declared.fault.FaultKind.TheVariants.{TooLarge}
use Rattle.expander_model.specs.Scoping.{Around, Scoped, Search, Attempt, Expander, attempt, only, scoped, search_list}
use Rattle.expander_model.specs.Limits.{Passed, passed_at_once, found_before, burst_before, Noted, definition, tried, burst, Notes, note_of, calls_of, noting, noted_world, noted_fit, noted_put_out, noted_bursts, looked_in, until_passed, within, noted_list, plain_attempt, noted_attempt, noted, too_large, limited, bounded, outermost}
use Rattle.expander_model.specs.declared.limits.Limits.{Limits}
use Rattle.textual_scope.specs.ScopeChanges.{around_with, scoped_with}
use Rattle.textual_scope.proofs.AgreementLemmas.{AgreeFrom, AgreeIn, agree_attempt, agree_list, agree_scoped}
use Rattle.textual_scope.proofs.ChangeLemmas.{SameFrom, SameWith, attempt_with, attempt-with, list-with, scoped-with}
use Rattle.textual_scope.proofs.FindsLemmas.{FoundBy, FoundFrom, found_attempt, found_list, found_scoped}
use Rattle.textual_scope.proofs.MarkChangeLemmas.{site_with, stays-with}
use Rattle.textual_scope.proofs.NoteLemmas.{unnoted-noted, unnoted-tried}
use Rattle.textual_scope.proofs.RefusalLemmas.{AllAgree, both_noted, both_tried, refused_too}

-- ---- look-ups and notes

module _ {D : Type 0} where
  -- a look-up before those that follow
  behind_first : (P : (List ℕ × Option D) → Type 0) (x : List ℕ × Option D) (o : Option (Passed D)) (p : Passed D)
      → option_map (found_before x) o ≡ Some p → P x → ((q : Passed D) → o ≡ Some q → All P q.finds) → All P p.finds
  behind_first P x None p e first more = absurd (cc e)
  behind_first P x (Some q) p e first more =
      let same : found_before x q ≡ p = cc in subst (λ (v : Passed D). All P v.finds) same (All-cons P x q.finds first (more q refl))

  behind_burst : (P : (List ℕ × Option D) → Type 0) (o : Option (Passed D)) (p : Passed D)
      → option_map burst_before o ≡ Some p → ((q : Passed D) → o ≡ Some q → All P q.finds) → All P p.finds
  behind_burst P None p e more = absurd (cc e)
  behind_burst P (Some q) p e more = let same : burst_before q ≡ p = cc in subst (λ (v : Passed D). All P v.finds) same (more q refl)

  -- the look-ups until a limit is passed are among all
  until_among : (P : (List ℕ × Option D) → Type 0) (calls tokens : ℕ) (notes : Notes D) (p : Passed D)
      → until_passed calls tokens notes ≡ Some p → All P (looked_in notes) → All P p.finds
  until_among P calls tokens [] p e all = absurd (cc e)
  until_among P calls tokens ((key, Some burst) ∷ notes) p e all = behind_burst P (until_passed calls tokens notes) p e (λ q is. until_among P calls tokens notes q is all)
  until_among P calls tokens ((key, Some (tried c n)) ∷ notes) p e all =
      go (nat_lt calls c || nat_lt tokens n) e (λ later. until_among P (calls - c) (tokens - n) notes p later all)
    where
      go : (b : Bool) → (if b then Some passed_at_once else until_passed (calls - c) (tokens - n) notes) ≡ Some p → (until_passed (calls - c) (tokens - n) notes ≡ Some p → All P p.finds) → All P p.finds
      go true e more = let is : passed_at_once ≡ p = cc in subst (λ (v : Passed D). All P v.finds) is (All-nil P)
      go false e more = more e
  until_among P calls tokens ((key, Some (definition d)) ∷ notes) p e all =
      behind_first P (key, Some d) (until_passed calls tokens notes) p e (All-head P (key, Some d) (looked_in notes) all)
      (λ q is. until_among P calls tokens notes q is (All-tail P (key, Some d) (looked_in notes) all))
  until_among P calls tokens ((key, None) ∷ notes) p e all =
      behind_first P (key, None) (until_passed calls tokens notes) p e (All-head P (key, None) (looked_in notes) all)
      (λ q is. until_among P calls tokens notes q is (All-tail P (key, None) (looked_in notes) all))

  -- notes agree where their look-ups do
  all_agree : (others : List ℕ → Option D) (notes : Notes D) → All (λ find. others find.0 ≡ find.1) (looked_in notes) → AllAgree others notes
  all_agree others [] all = tt
  all_agree others ((key, Some burst) ∷ notes) all = (tt, all_agree others notes all)
  all_agree others ((key, Some (tried c n)) ∷ notes) all = (tt, all_agree others notes all)
  all_agree others ((key, Some (definition d)) ∷ notes) all =
      (All-head (λ find. others find.0 ≡ find.1) (key, Some d) (looked_in notes) all, all_agree others notes (All-tail (λ find. others find.0 ≡ find.1) (key, Some d) (looked_in notes) all))
  all_agree others ((key, None) ∷ notes) all =
      (All-head (λ find. others find.0 ≡ find.1) (key, None) (looked_in notes) all, all_agree others notes (All-tail (λ find. others find.0 ≡ find.1) (key, None) (looked_in notes) all))

-- ---- what an expansion depends on

module _ {D : Type 0} (dialect : Dialect) (world : World D) (local : Definition → D) (limits : Limits) where
  -- what a call looks up is looked up without its notes
  same_finds : (scope : List ℕ → Option D) (n : ℕ) (d : D) (around : Around) (site : CallSite)
      → looked_in (noted_attempt dialect world local scope (noted dialect world local scope n) (definition d) around site).given.outcome.finds
      ≡ (attempt dialect world local scope (scoped dialect world local scope n) d around site).given.outcome.finds
  same_finds scope n d around site =
      ap (λ (a : Attempt D). a.given.outcome.finds)
      (unnoted-tried dialect world local scope (noted dialect world local scope n) (scoped dialect world local scope n) (unnoted-noted dialect world local scope n) d around site)

  module _ (scope : List ℕ → Option D) where
    found_limited : (n : ℕ) → FoundFrom dialect world local scope (limited dialect world local scope limits n)
    found_limited n d around site = go (too_large dialect world local scope limits n d around site) refl
      where
        IsFound : (List ℕ × Option D) → Type 0
        IsFound find = scope find.0 ≡ find.1

        all : All IsFound (attempt dialect world local scope (scoped dialect world local scope n) d around site).given.outcome.finds
        all = found_attempt dialect world local scope (scoped dialect world local scope n) (found_scoped dialect world local scope n) d around site

        go : (o : Option (Passed D)) → too_large dialect world local scope limits n d around site ≡ o
            → All IsFound (within o around site (attempt dialect world local scope (scoped dialect world local scope n) d around site)).given.outcome.finds
        go None e = all
        go (Some p) e = until_among IsFound limits.calls limits.tokens (noted_attempt dialect world local scope (noted dialect world local scope n) (definition d) around site).given.outcome.finds p e (subst (All IsFound) (sym (same_finds scope n d around site)) all)

    pub found_bounded : (n : ℕ) → FoundBy dialect world local scope (bounded dialect world local scope limits n)
    found_bounded zero around f = found_list dialect world local scope None tt (suc (size f)) around f
    found_bounded (suc n) around f = found_list dialect world local scope (Some (limited dialect world local scope limits n)) (found_limited n) (suc (size f)) around f

  module _ (scope others : List ℕ → Option D) where
    abbrev Same : (List ℕ × Option D) → Type 0
    Same find = others find.0 ≡ find.1

    agree_limited : (n : ℕ) → AgreeFrom dialect world local scope others (limited dialect world local scope limits n) (limited dialect world local others limits n)
    agree_limited n d around site h = go (too_large dialect world local scope limits n d around site) refl h
      where
        one : Attempt D
        one = attempt dialect world local scope (scoped dialect world local scope n) d around site

        two : Attempt D
        two = attempt dialect world local others (scoped dialect world local others n) d around site

        go : (o : Option (Passed D)) → too_large dialect world local scope limits n d around site ≡ o → All Same (within o around site one).given.outcome.finds
            → within (too_large dialect world local others limits n d around site) around site two ≡ within o around site one
        go (Some p) e h = ap (λ o. within o around site two) (refused_too dialect world local scope others limits n d around site p e h)
        go None e h =
            let noted_one : Search (Noted D) = noted dialect world local scope n in
            let noted_two : Search (Noted D) = noted dialect world local others n in
            let agree : AllAgree others (noted_attempt dialect world local scope noted_one (definition d) around site).given.outcome.finds =
            all_agree others _ (subst (All Same) (sym (same_finds scope n d around site)) h) in
            ap (λ (a : Scoped (Noted D)). within (until_passed limits.calls limits.tokens a.outcome.finds) around site two)
            ((both_tried dialect world local scope others noted_one noted_two (both_noted dialect world local scope others n) (definition d) around site).given.same agree)
            ∙ ap (λ o. within o around site two) e
            ∙ agree_attempt dialect world local scope others (scoped dialect world local scope n) (scoped dialect world local others n)
            (agree_scoped dialect world local scope others n) d around site h

    pub agree_bounded : (n : ℕ) → AgreeIn dialect world local scope others (bounded dialect world local scope limits n) (bounded dialect world local others limits n)
    agree_bounded zero around f h = agree_list dialect world local scope others None None tt (suc (size f)) around f h
    agree_bounded (suc n) around f h =
        agree_list dialect world local scope others (Some (limited dialect world local scope limits n)) (Some (limited dialect world local others limits n))
        (agree_limited n) (suc (size f)) around f h

-- ---- at other spans

module _ {D E : Type 0} (f : Span → Span) (h : D → E) where
  -- what is noted, with h applied to definitions
  abbrev note_with : Noted D → Noted E
  note_with (definition d) = definition (h d)
  note_with (tried c n) = tried c n
  note_with burst = burst

  note_of-with : (b : Bool) (r : Option Forest) (n : ℕ) → note_of b (option_map (map_spans f) r) n ≡ map (find_with note_with) (note_of b r n)
  note_of-with true None n = refl
  note_of-with true (Some g) n = refl
  note_of-with false None n = refl
  note_of-with false (Some g) n = refl

  noting-with : (notes : Notes D) (a : Scoped (Noted D)) → noting (map (find_with note_with) notes) (scoped_with f note_with a) ≡ scoped_with f note_with (noting notes a)
  noting-with notes a =
      ap (λ (xs : Notes E). record (scoped_with f note_with a) { outcome = record (outcome_with f note_with a.outcome) { finds = xs } }) (go notes)
    where
      go : (xs : Notes D) → map (find_with note_with) xs ++ map (find_with note_with) a.outcome.finds ≡ map (find_with note_with) (xs ++ a.outcome.finds)
      go [] = refl
      go (x ∷ xs) = ap (λ ys. find_with note_with x ∷ ys) (go xs)

  -- what comes before a limit is passed
  abbrev passed_with : Passed D → Passed E
  passed_with p = record { finds = map (find_with h) p.finds; bursts = p.bursts }

  passed-with : (calls tokens : ℕ) (notes : Notes D) → until_passed calls tokens (map (find_with note_with) notes) ≡ option_map passed_with (until_passed calls tokens notes)
  passed-with calls tokens [] = refl
  passed-with calls tokens ((key, Some burst) ∷ notes) = ap (option_map burst_before) (passed-with calls tokens notes) ∙ go (until_passed calls tokens notes)
    where
      go : (o : Option (Passed D)) → option_map burst_before (option_map passed_with o) ≡ option_map passed_with (option_map burst_before o)
      go None = refl
      go (Some p) = refl
  passed-with calls tokens ((key, Some (tried c n)) ∷ notes) =
      elim (nat_lt calls c || nat_lt tokens n) as
      (λ b. (if b then Some passed_at_once else until_passed (calls - c) (tokens - n) (map (find_with note_with) notes))
      ≡ option_map passed_with (if b then Some passed_at_once else until_passed (calls - c) (tokens - n) notes))
      [ true ↦ refl | false ↦ passed-with (calls - c) (tokens - n) notes ]
  passed-with calls tokens ((key, Some (definition d)) ∷ notes) = ap (option_map (found_before (key, Some (h d)))) (passed-with calls tokens notes) ∙ go (until_passed calls tokens notes)
    where
      go : (o : Option (Passed D)) → option_map (found_before (key, Some (h d))) (option_map passed_with o) ≡ option_map passed_with (option_map (found_before (key, Some d)) o)
      go None = refl
      go (Some p) = refl
  passed-with calls tokens ((key, None) ∷ notes) = ap (option_map (found_before (key, None))) (passed-with calls tokens notes) ∙ go (until_passed calls tokens notes)
    where
      go : (o : Option (Passed D)) → option_map (found_before (key, None)) (option_map passed_with o) ≡ option_map passed_with (option_map (found_before (key, None)) o)
      go None = refl
      go (Some p) = refl

  -- an attempt by limits
  within-with : (o : Option (Passed D)) (around : Around) (site : CallSite) (a : Attempt D)
      → within (option_map passed_with o) (around_with f around) (site_with f site) (attempt_with f h a) ≡ attempt_with f h (within o around site a)
  within-with None around site a = refl
  within-with (Some p) around site a =
      ap (λ (o : Outcome E). record { replaces = false; given = only (record o { finds = map (find_with h) p.finds; bursts = p.bursts }) }) (stays-with f h TooLarge around.outer site)

  module _ (dialect : Dialect) (w : World D) (v : World E) (c : Changes f h w v) (local : Definition → D) (local' : Definition → E) (made : (d : Definition) → local' (definition_with f d) ≡ h (local d))
      (scope : List ℕ → Option D) (changed : List ℕ → Option E) (finds : ScopeChange h scope changed) where
    noted_changes : Changes f note_with (noted_world w) (noted_world v)
    noted_changes = record {
      broken = λ x. elim x as (λ x. (noted_world v).broken (note_with x) ≡ (noted_world w).broken x) [ definition d ↦ c.broken d | tried k n ↦ refl | burst ↦ refl ];
      fit = λ x a. elim x as (λ x. noted_fit v (note_with x) (map_spans f a) ≡ option_map (map_spans f) (noted_fit w x a)) [ definition d ↦ c.fit d a | tried k n ↦ refl | burst ↦ refl ];
      put_out = λ x a. elim x as (λ x. noted_put_out v (note_with x) (map_spans f a) ≡ noted_put_out w x a) [ definition d ↦ c.put_out d a | tried k n ↦ refl | burst ↦ refl ];
      bursts = λ x a. elim x as (λ x. noted_bursts v (note_with x) (map_spans f a) ≡ noted_bursts w x a) [ definition d ↦ c.bursts d a | tried k n ↦ refl | burst ↦ refl ];
    }

    noted_finds : ScopeChange note_with (λ key. option_map definition (scope key)) (λ key. option_map definition (changed key))
    noted_finds key = ap (option_map definition) (finds key) ∙ go (scope key)
      where
        go : (o : Option D) → option_map definition (option_map h o) ≡ option_map note_with (option_map definition o)
        go None = refl
        go (Some d) = refl

    noted_made : (d : Definition) → definition (local' (definition_with f d)) ≡ note_with (definition (local d))
    noted_made d = ap definition (made d)

    tried-with : (one : Search (Noted D)) (two : Search (Noted E)) → SameWith f note_with one two
        → SameFrom f note_with (noted_attempt dialect w local scope one) (noted_attempt dialect v local' changed two)
    tried-with one two same d around site =
        let a : Attempt (Noted D) = plain_attempt dialect w local scope one d around site in
        let of : Notes E → Attempt (Noted E) → Attempt (Noted E) = λ notes x. record x { given = noting notes x.given } in
        let bursts : Bool = noted_bursts w d site.argument in
        let fits : Option Forest = noted_fit w d site.argument in
        let n : ℕ = noted_put_out w d site.argument in
        let two_is : plain_attempt dialect v local' changed two (note_with d) (around_with f around) (site_with f site) ≡ attempt_with f note_with a =
        attempt-with f note_with dialect (noted_world w) (noted_world v) noted_changes (λ x. definition (local x)) (λ x. definition (local' x)) noted_made
        (λ key. option_map definition (scope key)) (λ key. option_map definition (changed key)) noted_finds one two same d around site in
        let n' : ℕ = noted_put_out v (note_with d) (map_spans f site.argument) in
        ap (of (note_of (noted_bursts v (note_with d) (map_spans f site.argument)) (noted_fit v (note_with d) (map_spans f site.argument)) n')) two_is
        ∙ ap (λ (b : Bool). of (note_of b (noted_fit v (note_with d) (map_spans f site.argument)) n') (attempt_with f note_with a)) (noted_changes.bursts d site.argument)
        ∙ ap (λ r. of (note_of bursts r n') (attempt_with f note_with a)) (noted_changes.fit d site.argument)
        ∙ ap (λ k. of (note_of bursts (option_map (map_spans f) fits) k) (attempt_with f note_with a)) (noted_changes.put_out d site.argument)
        ∙ ap (λ notes. of notes (attempt_with f note_with a)) (note_of-with bursts fits n)
        ∙ ap (λ (x : Scoped (Noted E)). record { replaces = a.replaces; given = x }) (noting-with (note_of bursts fits n) a.given)

    noted-with : (n : ℕ) → SameWith f note_with (noted dialect w local scope n) (noted dialect v local' changed n)
    noted-with zero around g =
        ap (λ k. noted_list dialect v local' changed None (suc k) (around_with f around) (map_spans f g)) (size-map_spans f g)
        ∙ list-with f note_with dialect (noted_world w) (noted_world v) noted_changes (λ x. definition (local x)) (λ x. definition (local' x)) noted_made
        (λ key. option_map definition (scope key)) (λ key. option_map definition (changed key)) noted_finds None None tt (suc (size g)) around g
    noted-with (suc n) around g =
        let one : Search (Noted D) = noted dialect w local scope n in
        let two : Search (Noted E) = noted dialect v local' changed n in
        let tries : Expander (Noted E) = noted_attempt dialect v local' changed two in
        ap (λ k. noted_list dialect v local' changed (Some tries) (suc k) (around_with f around) (map_spans f g)) (size-map_spans f g)
        ∙ list-with f note_with dialect (noted_world w) (noted_world v) noted_changes (λ x. definition (local x)) (λ x. definition (local' x)) noted_made
        (λ key. option_map definition (scope key)) (λ key. option_map definition (changed key)) noted_finds
        (Some (noted_attempt dialect w local scope one)) (Some tries) (tried-with one two (noted-with n)) (suc (size g)) around g

    module _ (limits : Limits) where
      too_large-with : (n : ℕ) (d : D) (around : Around) (site : CallSite)
          → too_large dialect v local' changed limits n (h d) (around_with f around) (site_with f site) ≡ option_map passed_with (too_large dialect w local scope limits n d around site)
      too_large-with n d around site =
          let one : Search (Noted D) = noted dialect w local scope n in
          let two : Search (Noted E) = noted dialect v local' changed n in
          ap (λ (a : Attempt (Noted E)). until_passed limits.calls limits.tokens a.given.outcome.finds) (tried-with one two (noted-with n) (definition d) around site)
          ∙ passed-with limits.calls limits.tokens (noted_attempt dialect w local scope one (definition d) around site).given.outcome.finds

      limited-with : (n : ℕ) → SameFrom f h (limited dialect w local scope limits n) (limited dialect v local' changed limits n)
      limited-with n d around site =
          let one : Search D = scoped dialect w local scope n in
          let two : Search E = scoped dialect v local' changed n in
          let a : Attempt D = attempt dialect w local scope one d around site in
          let a' : Attempt E = attempt dialect v local' changed two (h d) (around_with f around) (site_with f site) in
          ap (λ o. within o (around_with f around) (site_with f site) a') (too_large-with n d around site)
          ∙ ap (within (option_map passed_with (too_large dialect w local scope limits n d around site)) (around_with f around) (site_with f site))
          (attempt-with f h dialect w v c local local' made scope changed finds one two (scoped-with f h dialect w v c local local' made scope changed finds n) d around site)
          ∙ within-with (too_large dialect w local scope limits n d around site) around site a

      pub bounded-with : (n : ℕ) → SameWith f h (bounded dialect w local scope limits n) (bounded dialect v local' changed limits n)
      bounded-with zero around g =
          ap (λ k. search_list dialect v local' changed None (suc k) (around_with f around) (map_spans f g)) (size-map_spans f g)
          ∙ list-with f h dialect w v c local local' made scope changed finds None None tt (suc (size g)) around g
      bounded-with (suc n) around g =
          let tries : Expander E = limited dialect v local' changed limits n in
          ap (λ k. search_list dialect v local' changed (Some tries) (suc k) (around_with f around) (map_spans f g)) (size-map_spans f g)
          ∙ list-with f h dialect w v c local local' made scope changed finds (Some (limited dialect w local scope limits n)) (Some tries) (limited-with n) (suc (size g)) around g

-- ---- by limits or without

module _ {D : Type 0} (dialect : Dialect) (world : World D) (local : Definition → D) where
  pub found_outermost : (o : Option Limits) (scope : List ℕ → Option D) (n : ℕ) → FoundBy dialect world local scope (outermost dialect world local scope o n)
  found_outermost None scope n = found_scoped dialect world local scope n
  found_outermost (Some limits) scope n = found_bounded dialect world local limits scope n

  pub agree_outermost : (o : Option Limits) (scope others : List ℕ → Option D) (n : ℕ)
      → AgreeIn dialect world local scope others (outermost dialect world local scope o n) (outermost dialect world local others o n)
  agree_outermost None scope others n = agree_scoped dialect world local scope others n
  agree_outermost (Some limits) scope others n = agree_bounded dialect world local limits scope others n

module _ {D E : Type 0} (f : Span → Span) (h : D → E) (dialect : Dialect) (w : World D) (v : World E) (c : Changes f h w v) (local : Definition → D) (local' : Definition → E)
    (made : (d : Definition) → local' (definition_with f d) ≡ h (local d)) (scope : List ℕ → Option D) (changed : List ℕ → Option E) (finds : ScopeChange h scope changed) where
  pub outermost-with : (o : Option Limits) (n : ℕ) → SameWith f h (outermost dialect w local scope o n) (outermost dialect v local' changed o n)
  outermost-with None n = scoped-with f h dialect w v c local local' made scope changed finds n
  outermost-with (Some limits) n = bounded-with f h dialect w v c local local' made scope changed finds limits n
