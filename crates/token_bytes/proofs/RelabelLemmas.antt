-- Records of which so many have their anchors replaced.
use Rattle.std.proofs.Common.{◌≡◌, ◌∙◌, ap, subst, sym, ℕ, zero, suc, ◌+◌, ◌<◌, ◌≤◌, List, [], ◌∷◌, ◌++◌, length, map, take, drop, set, get_or, refl, arith}
use Rattle.tt_data.specs.declared.leaf.Leaf.TheVariants as as_leaf
use Rattle.tt_data.specs.declared.tree.TokenTree.{TokenTree}
use Rattle.tt_data.specs.declared.tree.TokenTree.TheVariants as token
use Rattle.token_bytes.proofs.ChangedLemmas.{changed_all, changed_next, changed_up_to}
use Rattle.token_bytes.specs.Marks.{IsMarkIn, mark_of, record_size, records_size}
use Rattle.token_bytes.specs.Packed.{ArePacked}
use Rattle.token_bytes.specs.Packing.{tokens_in}
use Rattle.token_bytes.specs.Records.{token_bytes}
use Rattle.token_bytes.specs.Relabelled.{RecordAt, renamed_token}
use Rattle.token_bytes.specs.declared.mark.Mark.{Mark}
use Rattle.token_bytes.proofs.MarkChanges.{AreAlike}
use Rattle.token_bytes.proofs.MarkLemmas.{Holds, mark_at, mark_bytes}
use Rattle.token_bytes.proofs.PatchLemmas.{Replaces, renamed_is, renamed_text, replaces}
use Rattle.token_bytes.proofs.TokensLemmas.{sizes_next}

length-changed : (f : TokenTree → TokenTree) (k : ℕ) (ts : List TokenTree) → length (changed_up_to f k ts) ≡ length ts
length-changed f zero ts = refl
length-changed f (suc k) [] = refl
length-changed f (suc k) (t ∷ more) = ap suc (length-changed f k more)

drop-changed : (f : TokenTree → TokenTree) (k : ℕ) (ts : List TokenTree) → drop k (changed_up_to f k ts) ≡ drop k ts
drop-changed f zero ts = refl
drop-changed f (suc k) [] = refl
drop-changed f (suc k) (t ∷ more) = drop-changed f k more

get_at : (k : ℕ) (ts more : List TokenTree) (t : TokenTree) → drop k ts ≡ t ∷ more → get_or ts k t ≡ t
get_at k [] more t is = refl
get_at zero (x ∷ rest) more t is = ap first is where
  first : List TokenTree → TokenTree
  first [] = t
  first (y ∷ ys) = y
get_at (suc k) (x ∷ rest) more t is = get_at k rest more t is

-- a token with its anchors replaced has a record of the same size
size_kept : (h : ℕ → ℕ) (t : TokenTree) → record_size (renamed_token h t) ≡ record_size t
size_kept h (token.Subtree s) = refl
size_kept h (token.Leaf (as_leaf.Punct p)) = refl
size_kept h (token.Leaf (as_leaf.Ident i)) = refl
size_kept h (token.Leaf (as_leaf.Literal l)) = refl

pub alike_renamed : (h : ℕ → ℕ) (ts : List TokenTree) → AreAlike (map (renamed_token h) ts) ts
alike_renamed h [] = tt
alike_renamed h (t ∷ more) = (size_kept h t, renamed_text h t, alike_renamed h more)

sizes_kept : (h : ℕ → ℕ) (k n : ℕ) (ts : List TokenTree) → records_size (take n (changed_up_to (renamed_token h) k ts)) ≡ records_size (take n ts)
sizes_kept h zero n ts = refl
sizes_kept h (suc k) zero ts = refl
sizes_kept h (suc k) (suc n) [] = refl
sizes_kept h (suc k) (suc n) (t ∷ more) = omega (arith, size_kept h t, sizes_kept h k n more)

-- the first k of n tokens have other anchors, and the record of the next begins at a byte
pub record RelabelledTo (h : ℕ → ℕ) (ts : List TokenTree) (k at n : ℕ) (bytes : List ℕ) (table : List (List ℕ)) : Type 0 where
  pub are : Holds (changed_up_to (renamed_token h) k ts) n bytes table
  pub at_is : at ≡ records_size (take k ts)

pub none_yet : (h : ℕ → ℕ) (ts : List TokenTree) (n : ℕ) (bytes : List ℕ) (table : List (List ℕ)) → ArePacked (tokens_in n table bytes) bytes table
    → tokens_in n table bytes ≡ ts → RelabelledTo h ts 0 0 n bytes table
none_yet h ts n bytes table packed shown = record { are = record { shown = shown; packed = packed }; at_is = refl }

pub all_done : (h : ℕ → ℕ) (ts : List TokenTree) (k at n : ℕ) (bytes : List ℕ) (table : List (List ℕ)) → k ≡ length ts
    → RelabelledTo h ts k at n bytes table → Holds (map (renamed_token h) ts) n bytes table
all_done h ts k at n bytes table all so_far =
    subst (λ l. Holds l n bytes table) (changed_all (renamed_token h) k ts all) so_far.are

-- the next record
pub record Turn (h : ℕ → ℕ) (ts : List TokenTree) (k at n : ℕ) (bytes : List ℕ) (table : List (List ℕ)) : Type 0 where
  pub there : RecordAt at bytes
  pub after : (new : List ℕ) (next : ℕ) → new ≡ there.before ++ (token_bytes there.n (renamed_token h there.token) ++ there.more)
      → next ≡ at + record_size there.token → RelabelledTo h ts (suc k) next n new table

pub turn : (h : ℕ → ℕ) (ts : List TokenTree) (k at n : ℕ) (bytes : List ℕ) (table : List (List ℕ)) → RelabelledTo h ts k at n bytes table
    → n ≡ length ts → k < n → Turn h ts k at n bytes table
turn h ts k at n bytes table so_far counted below =
    let f : TokenTree → TokenTree = renamed_token h in
    let us : List TokenTree = changed_up_to f k ts in
    let len : length us ≡ n = length-changed f k ts ∙ sym counted in
    let packed : ArePacked us bytes table = subst (λ l. ArePacked l bytes table) so_far.are.shown so_far.are.packed in
    let m : Mark = mark_of (take k us) in
    let count : m.count ≡ k = take_length k us (omega (arith, len, below)) in
    let is : IsMarkIn m us = mark_at k us (omega (arith, len, below)) in
    let here : at ≡ m.bytes = so_far.at_is ∙ sym (sizes_kept h k k ts) ∙ ap (λ i. records_size (take i us)) (sym count) ∙ sym (mark_bytes m us is) in
    let r : Replaces m us bytes table = replaces m us bytes table packed is (omega (arith, count, len, below)) in
    let t : TokenTree = r.there.token in
    let behind : drop k us ≡ t ∷ drop (suc m.count) us = ap (λ i. drop i us) (sym count) ∙ r.behind in
    record {
      there = record {
        before = r.there.before;
        token = t;
        n = r.there.n;
        more = r.there.more;
        at_is = here ∙ r.there.at_is;
        bytes_are = r.there.bytes_are;
      };
      after = λ new next put on.
          let now : set us m.count (f t) ≡ changed_up_to f (suc k) ts =
          ap (λ i. set us i (f t)) count
          ∙ ap (λ x. set us k (f x)) (sym (get_at k us (drop (suc m.count) us) t behind))
          ∙ changed_next f k ts t (omega (arith, counted, below)) in
          let size : records_size (take (suc k) ts) ≡ records_size (take k ts) + record_size t =
          sizes_next k ts (drop (suc m.count) us) t (sym (drop-changed f k ts) ∙ behind) in
          record {
            are = subst (λ l. Holds l n new table) now
                (subst (λ i. Holds (set us m.count (f t)) i new table) len
                (r.after (f t) new (renamed_is h t) (renamed_text h t) put));
            at_is = omega (arith, on, so_far.at_is, size);
          };
    }
  where
    take_length : (k : ℕ) (us : List TokenTree) → k ≤ length us → length (take k us) ≡ k
    take_length zero us le = refl
    take_length (suc k) [] le = absurd (omega (arith, le))
    take_length (suc k) (u ∷ us) le = ap suc (take_length k us (omega (arith, le)))
