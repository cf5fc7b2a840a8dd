-- What the choices of a thread contribute.
use Rattle.std.proofs.Common.{◌≡◌, inl, inr, refl, ap, ◌∙◌, ℕ, Bool, true, false, List, [], ◌∷◌, ◌++◌, map, append_assoc, append-nil}
use Rattle.std.specs.List.{flat_map}
use Rattle.std.proofs.lemmas.List.{map-append}
use Rattle.mbe_rules.specs.Items.{done, item, group_of, repetition}
use Rattle.mbe_matcher.specs.Grammar.{Grammar}
use Rattle.mbe_matcher.specs.Paths.{IsAmong, when}
use Rattle.mbe_matcher.specs.Readings as r
use Rattle.mbe_matcher.specs.Threads.{contributes, extended}
use Rattle.mbe_matcher.specs.Waiting.{Waiting, ended, pending, prefixed, settled_one, settled_at, Good}
use Rattle.mbe_matcher.proofs.MatchingLemmas.{settled-at}

prefixed-prefixed : {M S : Type 0} (ms ns : List M) (ws : List (Waiting M S)) →
    map (prefixed ms) (map (prefixed ns) ws) ≡ map (prefixed (ms ++ ns)) ws
prefixed-prefixed ms ns [] = refl
prefixed-prefixed ms ns (ended ks ∷ ws) = let i = prefixed-prefixed ms ns ws in let e = append_assoc ms ns ks in cc
prefixed-prefixed ms ns (pending ks b t ∷ ws) = let i = prefixed-prefixed ms ns ws in let e = append_assoc ms ns ks in cc

one-contributes : (gr : Grammar) → (ms : List r.Move) (s : r.State) (c : r.Choice) →
    map (prefixed ms) (settled_one r.takes r.is_fragment s c (settled_at gr c.1)) ≡ contributes gr (extended ms c)
one-contributes gr ms s c = go (r.takes c.0)
  where
    go : (b : Bool) →
        map (prefixed ms) (elim b [ true ↦ pending (c.0 ∷ []) (r.is_fragment c.0) c.1 ∷ [] | false ↦ map (prefixed (c.0 ∷ [])) (settled_at gr c.1) ])
        ≡ contributes gr (ms ++ (c.0 ∷ []), b, r.is_fragment c.0, c.1)
    go true = refl
    go false = prefixed-prefixed ms (c.0 ∷ []) (settled_at gr c.1)

all-contribute : (gr : Grammar) → (ms : List r.Move) (s : r.State) (cs : List r.Choice) →
    map (prefixed ms) (flat_map (λ c. settled_one r.takes r.is_fragment s c (settled_at gr c.1)) cs)
    ≡ flat_map (contributes gr) (map (extended ms) cs)
all-contribute gr ms s [] = refl
all-contribute gr ms s (c ∷ cs) = rw (map-append, one-contributes gr ms s c, all-contribute gr ms s cs)

-- settling a thread is making its choices
pub settled-next : (gr : Grammar) → (ms : List r.Move) (s : r.State) → (N : ℕ) → Good N s →
    map (prefixed ms) (settled_at gr s)
    ≡ map (prefixed ms) (when (r.has_used_up s) (ended [])) ++ flat_map (contributes gr) (map (extended ms) (r.next gr s))
settled-next gr ms s N g =
    ap (map (prefixed ms)) (settled-at gr N s g) ∙ map-append _ _ _
    ∙ ap (λ x. map (prefixed ms) (when (r.has_used_up s) (ended [])) ++ x) (all-contribute gr ms s (r.next gr s))

nothing-next : (gr : Grammar) → (s : r.State) → r.has_used_up s ≡ true → r.next gr s ≡ []
nothing-next gr (r.at done [] p) e = refl
nothing-next gr (r.at done (f ∷ fs) p) e = absurd (cc e)
nothing-next gr (r.at (item i rest) fs p) e = absurd (cc e)
nothing-next gr (r.at (group_of d inner rest) fs p) e = absurd (cc e)
nothing-next gr (r.at (repetition body sep op rest) fs p) e = absurd (cc e)

-- a thread that has used up the argument waits alone
pub settled-ended : (gr : Grammar) → (ms : List r.Move) (s : r.State) → (N : ℕ) → Good N s → r.has_used_up s ≡ true →
    map (prefixed ms) (settled_at gr s) ≡ ended ms ∷ []
settled-ended gr ms s N g e =
    settled-next gr ms s N g
    ∙ ap (λ b. map (prefixed ms) (when b (ended [])) ++ flat_map (contributes gr) (map (extended ms) (r.next gr s))) e
    ∙ ap (λ x. (ended (ms ++ []) ∷ []) ++ flat_map (contributes gr) (map (extended ms) x)) (nothing-next gr s e)
    ∙ ap (λ x. ended x ∷ []) (append-nil ms)

-- one that has not waits where its choices do
pub settled-goes_on : (gr : Grammar) → (ms : List r.Move) (s : r.State) → (N : ℕ) → Good N s → r.has_used_up s ≡ false →
    map (prefixed ms) (settled_at gr s) ≡ flat_map (contributes gr) (map (extended ms) (r.next gr s))
settled-goes_on gr ms s N g e =
    settled-next gr ms s N g
    ∙ ap (λ b. map (prefixed ms) (when b (ended [])) ++ flat_map (contributes gr) (map (extended ms) (r.next gr s))) e

pub from-map : {A B : Type 0} (f : A → B) (y : B) (xs ys : List B) (zs : List A) → xs ++ (y ∷ ys) ≡ map f zs → (a : A) × IsAmong a zs × (f a ≡ y)
from-map f y [] ys [] e = absurd (cc e)
from-map f y [] ys (a ∷ zs) e = (a, inl refl, cc)
from-map f y (x ∷ xs) ys [] e = absurd (cc e)
from-map f y (x ∷ xs) ys (a ∷ zs) e = let k = from-map f y xs ys zs cc in (k.0, inr k.1, k.2)
