-- Bindings commute with a span map.
use Rattle.std.proofs.Common.{◌≡◌, refl, ap, ◌∙◌, ℕ, zero, suc, ◌-◌, if◌then◌else◌, Bool, true, false, List, [], ◌∷◌, ◌++◌, map, Option, Some, None, option_map}
use Rattle.std.proofs.lemmas.List.{map-append}
use Rattle.tt_data.specs.Forest.{empty, map_spans}
use Rattle.tt_data.specs.declared.span.Span.{Span}
use Rattle.mbe_rules.specs.Text.{same_text}
use Rattle.mbe_rules.specs.declared.parser.MetaVarKind.TheVariants.{Vis}
use Rattle.mbe_matcher.specs.Bindings.{Binding, fragment, rounds, skipped, Values, no_more, value, value_at, value_put, Map, binding_of, bind, bind_skipped, with_round, bind_round, bind_rounds, Open, bindings_from, bindings}
use Rattle.mbe_matcher.specs.Readings.{Move, unit_move, fragment_move, nothing_move, enter, skip, leave, separator_move, next_round}
use Rattle.mbe_matcher.proofs.ReadingLemmas.{move_with}

abbrev mutual
  pub binding_with : (Span → Span) → Binding → Binding
  binding_with f (fragment k x) = fragment k (map_spans f x)
  binding_with f (rounds vs) = rounds (values_with f vs)
  binding_with f skipped = skipped

  pub values_with : (Span → Span) → Values → Values
  values_with f no_more = no_more
  values_with f (value b vs) = value (binding_with f b) (values_with f vs)

abbrev pub entry_with : (Span → Span) → List ℕ × Binding → List ℕ × Binding
entry_with f e = (e.0, binding_with f e.1)

abbrev pub map_with : (Span → Span) → Map → Map
map_with f m = map (entry_with f) m

abbrev pub open_with : (Span → Span) → Open → Open
open_with f o = (map_with f o.0, map (map_with f) o.1)

module _ (f : Span → Span) where
  pub value_at-map : (n : ℕ) (vs : Values) → value_at n (values_with f vs) ≡ option_map (binding_with f) (value_at n vs)
  value_at-map n no_more = refl
  value_at-map zero (value b vs) = refl
  value_at-map (suc n) (value b vs) = value_at-map n vs

  value_put-map : (n : ℕ) (b : Binding) (vs : Values) → value_put n (binding_with f b) (values_with f vs) ≡ values_with f (value_put n b vs)
  value_put-map zero b no_more = refl
  value_put-map (suc n) b no_more = ap (value (rounds no_more)) (value_put-map n b no_more)
  value_put-map zero b (value c vs) = ap (value (binding_with f c)) (value_put-map (zero - 1) b vs)
  value_put-map (suc n) b (value c vs) = ap (value (binding_with f c)) (value_put-map (suc n - 1) b vs)

  pub binding_of-map : (n : List ℕ) (m : Map) → binding_of n (map_with f m) ≡ option_map (binding_with f) (binding_of n m)
  binding_of-map n [] = refl
  binding_of-map n (e ∷ es) = go (same_text n e.0) (binding_of-map n es)
    where
      go : (b : Bool) → binding_of n (map_with f es) ≡ option_map (binding_with f) (binding_of n es) →
          (if b then Some (binding_with f e.1) else binding_of n (map_with f es)) ≡ option_map (binding_with f) (if b then Some e.1 else binding_of n es)
      go true h = refl
      go false h = h

  bind-map : (n : List ℕ) (b : Binding) (m : Map) → bind n (binding_with f b) (map_with f m) ≡ map_with f (bind n b m)
  bind-map n b [] = refl
  bind-map n b (e ∷ es) = go (same_text n e.0) (bind-map n b es)
    where
      go : (t : Bool) → bind n (binding_with f b) (map_with f es) ≡ map_with f (bind n b es) →
          (if t then (n, binding_with f b) ∷ map_with f es else entry_with f e ∷ bind n (binding_with f b) (map_with f es))
          ≡ map_with f (if t then (n, b) ∷ es else e ∷ bind n b es)
      go true h = refl
      go false h = ap (λ r. entry_with f e ∷ r) h

  bind_skipped-map : (ns : List (List ℕ)) (m : Map) → bind_skipped ns (map_with f m) ≡ map_with f (bind_skipped ns m)
  bind_skipped-map [] m = refl
  bind_skipped-map (n ∷ ns) m = rw (bind-map n skipped m) (bind_skipped-map ns (bind n skipped m))

  with_round-map : (n : ℕ) (b : Binding) (o : Option Binding) → with_round n (binding_with f b) (option_map (binding_with f) o) ≡ binding_with f (with_round n b o)
  with_round-map n b None = ap rounds (value_put-map n b no_more)
  with_round-map n b (Some (fragment k x)) = refl
  with_round-map n b (Some (rounds vs)) = ap rounds (value_put-map n b vs)
  with_round-map n b (Some skipped) = refl

  bind_entry-map : (n : ℕ) (e : List ℕ × Binding) (m : Map) →
      bind e.0 (with_round n (binding_with f e.1) (binding_of e.0 (map_with f m))) (map_with f m)
      ≡ map_with f (bind e.0 (with_round n e.1 (binding_of e.0 m)) m)
  bind_entry-map n e m =
      rw (binding_of-map e.0 m, with_round-map n e.1 (binding_of e.0 m)) (bind-map e.0 (with_round n e.1 (binding_of e.0 m)) m)

  bind_round-map : (n : ℕ) (r m : Map) → bind_round n (map_with f r) (map_with f m) ≡ map_with f (bind_round n r m)
  bind_round-map n [] m = refl
  bind_round-map n (e ∷ es) m =
      ap (bind_round n (map_with f es)) (bind_entry-map n e m) ∙ bind_round-map n es (bind e.0 (with_round n e.1 (binding_of e.0 m)) m)

  bind_rounds-map : (n : ℕ) (rs : List Map) (m : Map) → bind_rounds n (map (map_with f) rs) (map_with f m) ≡ map_with f (bind_rounds n rs m)
  bind_rounds-map n [] m = refl
  bind_rounds-map n (r ∷ rs) m =
      ap (bind_rounds (suc n) (map (map_with f) rs)) (bind_round-map n r m) ∙ bind_rounds-map (suc n) rs (bind_round n r m)

  bindings_from-map : (m : Map) (os : List Open) (ms : List Move) →
      bindings_from (map_with f m) (map (open_with f) os) (map (move_with f) ms) ≡ map_with f (bindings_from m os ms)
  bindings_from-map m os [] = refl
  bindings_from-map m os (fragment_move n k x ∷ ms) = rw (bind-map n (fragment k x) m) (bindings_from-map (bind n (fragment k x) m) os ms)
  bindings_from-map m os (nothing_move n ∷ ms) = rw (bind-map n (fragment Vis empty) m) (bindings_from-map (bind n (fragment Vis empty) m) os ms)
  bindings_from-map m os (skip ns ∷ ms) = rw (bind_skipped-map ns m) (bindings_from-map (bind_skipped ns m) os ms)
  bindings_from-map m os (enter ∷ ms) = bindings_from-map [] ((m, []) ∷ os) ms
  bindings_from-map m (o ∷ os) (next_round ∷ ms) =
      rw (← map-append (map_with f) o.1 (m ∷ [])) (bindings_from-map [] ((o.0, o.1 ++ (m ∷ [])) ∷ os) ms)
  bindings_from-map m (o ∷ os) (leave ∷ ms) =
      rw (← map-append (map_with f) o.1 (m ∷ []), bind_rounds-map 0 (o.1 ++ (m ∷ [])) o.0)
      (bindings_from-map (bind_rounds 0 (o.1 ++ (m ∷ [])) o.0) os ms)
  bindings_from-map m [] (next_round ∷ ms) = bindings_from-map m [] ms
  bindings_from-map m [] (leave ∷ ms) = bindings_from-map m [] ms
  bindings_from-map m os (unit_move ∷ ms) = bindings_from-map m os ms
  bindings_from-map m os (separator_move ∷ ms) = bindings_from-map m os ms

  pub bindings-map : (ms : List Move) → bindings (map (move_with f) ms) ≡ map_with f (bindings ms)
  bindings-map ms = bindings_from-map [] [] ms
