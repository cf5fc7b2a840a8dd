-- What is open after each move.
use Rattle.std.proofs.Common.{◌≡◌, refl, sym, ap, ◌∙◌, ℕ, suc, zero, Bool, true, false, List, [], ◌∷◌, ◌++◌, map, Option, Some, None, slice_get}
use Rattle.tt_data.specs.declared.delimiter.Delimiter.{Delimiter}
use Rattle.mbe_rules.specs.Items as i
use Rattle.mbe_rules.specs.Items.{Item, Items, Separator, done, dollar, group_of, item, lifetime, may_skip, puncts, repetition, variable, word, count_of, index_of, len_of, ignore_of, concat_of}
use Rattle.mbe_rules.specs.Ops.{items_of, put_op}
use Rattle.mbe_rules.specs.declared.parser.MetaVarKind.{MetaVarKind}
use Rattle.mbe_rules.specs.declared.parser.MetaVarKind.TheVariants.{Vis}
use Rattle.mbe_rules.specs.declared.parser.Op.{Op}
use Rattle.mbe_rules.specs.declared.parser.RepeatKind.{RepeatKind}
use Rattle.mbe_matcher.specs.Grammar.{Grammar}
use Rattle.mbe_matcher.specs.Fragments.{taken}
use Rattle.mbe_matcher.specs.Paths.{when}
use Rattle.mbe_matcher.specs.Readings as r
use Rattle.mbe_matcher.specs.Threads.{extended, given, made_of, state_of}
use Rattle.mbe_matcher.specs.Units as u
use Rattle.mbe_matcher.specs.declared.step.Choice.{Choice}
use Rattle.mbe_explain.specs.Levels.{AreAhead, Mark, frame_mark, group_mark, marks_in, parted_mark, round_mark}

-- at most one move, after which this is open
one-when : (ms : List Mark) (b : Bool) (c : r.Choice) → marks_in c.1 ≡ ms → AreAhead ms ms ms (when b c)
one-when ms true c e = e
one-when ms false c e = tt

after-fragment : (n : List ℕ) (k : MetaVarKind) (o : Option ℕ) (rest : Items) (fs : List r.Frame) (p : u.Place) →
    let ms = map frame_mark fs in AreAhead ms ms ms (r.fragment_moves n k o rest fs p)
after-fragment n k None rest fs p = tt
after-fragment n Vis (Some zero) rest fs p = refl
after-fragment n k (Some (suc j)) rest fs p = refl
after-fragment n _ (Some zero) rest fs p = tt

-- an op without ops inside opens nothing
pub after-item : (gr : Grammar) (x : Item) (rest : Items) (fs : List r.Frame) (p : u.Place) →
    let ms = map frame_mark fs in AreAhead ms ms ms (r.next gr (r.at (item x rest) fs p))
after-item gr (dollar (variable n (Some k)) s) rest fs p = after-fragment n k (taken gr k (r.trees_here p)) rest fs p
after-item gr (dollar (variable n None) s) rest fs p = tt
after-item gr (dollar (count_of n d) s) rest fs p = tt
after-item gr (dollar (index_of d) s) rest fs p = tt
after-item gr (dollar (len_of d) s) rest fs p = tt
after-item gr (dollar (ignore_of n) s) rest fs p = tt
after-item gr (dollar (concat_of ps) s) rest fs p = tt
after-item gr (word l) rest fs p = one-when (map frame_mark fs) _ _ refl
after-item gr (puncts ps) rest fs p = one-when (map frame_mark fs) _ _ refl
after-item gr (lifetime q j) rest fs p = one-when (map frame_mark fs) _ _ refl

pub after-group : (gr : Grammar) (d : Delimiter) (inner rest : Items) (fs : List r.Frame) (p : u.Place) →
    let ms = group_mark ∷ map frame_mark fs in AreAhead ms ms ms (r.next gr (r.at (group_of d inner rest) fs p))
after-group gr d inner rest fs p = one-when (group_mark ∷ map frame_mark fs) _ _ refl

pub after-repetition : (gr : Grammar) (body : Items) (sep : Option Separator) (op : RepeatKind) (rest : Items) (fs : List r.Frame) (p : u.Place) →
    let ms = map frame_mark fs in AreAhead (round_mark sep ∷ ms) ms (round_mark sep ∷ ms) (r.next gr (r.at (repetition body sep op rest) fs p))
after-repetition gr body sep op rest fs p = go (may_skip op)
  where
    go : (b : Bool) → let ms = map frame_mark fs in AreAhead (round_mark sep ∷ ms) ms (round_mark sep ∷ ms)
        ((r.enter, r.at body (r.in_round body sep op rest ∷ fs) p) ∷ when b (r.skip (i.variables body), r.at rest fs p))
    go true = (refl, refl)
    go false = refl

-- ---- at the end of a list of ops

pub after-close : (gr : Grammar) (fs : List r.Frame) (p : u.Place) (ms : List Mark) → map frame_mark fs ≡ group_mark ∷ ms →
    AreAhead ms ms ms (r.next gr (r.at done fs p))
after-close gr [] p ms e = absurd (cc e)
after-close gr (r.in_group after ∷ fs) p ms e = let same : map frame_mark fs ≡ ms = cc in one-when ms _ _ same
after-close gr (r.in_round body sep op after ∷ fs) p ms e = absurd (cc e)
after-close gr (r.parted body sep op after ∷ fs) p ms e = absurd (cc e)

pub after-parted : (gr : Grammar) (fs : List r.Frame) (p : u.Place) (sep : Option Separator) (ms : List Mark) → map frame_mark fs ≡ parted_mark sep ∷ ms →
    let ns = round_mark sep ∷ ms in AreAhead ns ns ns (r.next gr (r.at done fs p))
after-parted gr [] p sep ms e = absurd (cc e)
after-parted gr (r.in_group after ∷ fs) p sep ms e = absurd (cc e)
after-parted gr (r.in_round body s op after ∷ fs) p sep ms e = absurd (cc e)
after-parted gr (r.parted body s op after ∷ fs) p sep ms e =
    let same : round_mark s ∷ map frame_mark fs ≡ round_mark sep ∷ ms = cc in one-when (round_mark sep ∷ ms) _ _ same

round-end : (ms ns : List Mark) (b : Bool) (c d : r.Choice) → marks_in c.1 ≡ ns → marks_in d.1 ≡ ms → AreAhead ns ms ms (when b c ++ (d ∷ []))
round-end ms ns true c d e f = (e, f)
round-end ms ns false c d e f = f

pub after-round : (gr : Grammar) (fs : List r.Frame) (p : u.Place) (ms : List Mark) → map frame_mark fs ≡ round_mark None ∷ ms →
    AreAhead (round_mark None ∷ ms) ms ms (r.next gr (r.at done fs p))
after-round gr [] p ms e = absurd (cc e)
after-round gr (r.in_group after ∷ fs) p ms e = absurd (cc e)
after-round gr (r.in_round body None op after ∷ fs) p ms e =
    let same : map frame_mark fs ≡ ms = cc in
    round-end ms (round_mark None ∷ ms) _ _ _ (ap (λ x. round_mark None ∷ x) same) same
after-round gr (r.in_round body (Some s) op after ∷ fs) p ms e = absurd (cc e)
after-round gr (r.parted body sep op after ∷ fs) p ms e = absurd (cc e)

pub after-separated : (gr : Grammar) (fs : List r.Frame) (p : u.Place) (sep : Separator) (ms : List Mark) → map frame_mark fs ≡ round_mark (Some sep) ∷ ms →
    AreAhead (parted_mark (Some sep) ∷ ms) ms ms (r.next gr (r.at done fs p))
after-separated gr [] p sep ms e = absurd (cc e)
after-separated gr (r.in_group after ∷ fs) p sep ms e = absurd (cc e)
after-separated gr (r.in_round body None op after ∷ fs) p sep ms e = absurd (cc e)
after-separated gr (r.in_round body (Some s) op after ∷ fs) p sep ms e =
    let same : map frame_mark fs ≡ ms = cc in
    let parts : parted_mark (Some s) ∷ map frame_mark fs ≡ parted_mark (Some sep) ∷ ms = cc in
    round-end ms (parted_mark (Some sep) ∷ ms) _ _ _ parts same
after-separated gr (r.parted body s op after ∷ fs) p sep ms e = absurd (cc e)

pub after-all : (gr : Grammar) (fs : List r.Frame) (p : u.Place) → map frame_mark fs ≡ [] → AreAhead [] [] [] (r.next gr (r.at done fs p))
after-all gr [] p e = tt
after-all gr (f ∷ fs) p e = absurd (cc e)

-- the first op of a list
pub first-op : (os : List Op) (o : Op) → Some o ≡ slice_get os 0 → (rest : Items) × (items_of os ≡ put_op o rest)
first-op [] o e = absurd (cc e)
first-op (x ∷ os) o e = let same : x ≡ o = cc in (items_of os, ap (λ y. put_op y (items_of os)) same)

pub no-op : (os : List Op) → None ≡ slice_get os 0 → items_of os ≡ done
no-op [] e = refl
no-op (x ∷ os) e = absurd (cc e)

-- ---- the choices of a thread

marks-of-made : (p : u.Place) (c : Choice) (ms : List r.Move) (d : r.Choice) → made_of p c ≡ extended ms d → marks_in (state_of c.thread p) ≡ marks_in d.1
marks-of-made p c ms d e = sym (in-frames p c) ∙ ap (λ m. marks_in m.3) e
  where
    in-frames : (p : u.Place) (c : Choice) → marks_in (made_of p c).3 ≡ marks_in (state_of c.thread p)
    in-frames p c = refl

module _ (p : u.Place) (ms : List r.Move) (first second only : List Mark) where
  -- of two choices
  pub both-ahead : (c d : Choice) (cs : List r.Choice) → AreAhead first second only cs → given p (Some c) ++ given p (Some d) ≡ map (extended ms) cs →
      (marks_in (state_of c.thread p) ≡ first) × (marks_in (state_of d.thread p) ≡ second)
  both-ahead c d [] h e = absurd (cc e)
  both-ahead c d (x ∷ []) h e = absurd (cc e)
  both-ahead c d (x ∷ y ∷ cs) h e =
      let one : made_of p c ≡ extended ms x = cc in
      let other : made_of p d ≡ extended ms y = cc in
      (marks-of-made p c ms x one ∙ h.0, marks-of-made p d ms y other ∙ h.1)

  -- of one
  pub one-ahead : (c : Choice) (cs : List r.Choice) → AreAhead first second only cs → made_of p c ∷ [] ≡ map (extended ms) cs →
      marks_in (state_of c.thread p) ≡ only
  one-ahead c [] h e = absurd (cc e)
  one-ahead c (x ∷ []) h e = let one : made_of p c ≡ extended ms x = cc in marks-of-made p c ms x one ∙ h
  one-ahead c (x ∷ y ∷ cs) h e = absurd (cc e)
