-- Messages that are written, one after the other. (For `send`.)
use Rattle.std.proofs.Common.{◌≡◌, ◌∙◌, ℕ, ◌+◌, ◌<◌, List, [], ◌∷◌, ◌++◌, length, take, get_or, map, refl, sym, ap, append_assoc, append-nil, Option, Some, None}
use Rattle.std.specs.List.{flat_map}
use Rattle.std.proofs.lemmas.Grind.{flat_map-append}
use Rattle.std.proofs.lemmas.List.{map-append, take_more}
use Rattle.std.specs.Io.KnownBytes.{Appends, Consumes, Keeps}
use Rattle.serde_json.specs.Data.{Data}
use Rattle.serde_json.specs.View.{view}
use Rattle.serde_json.specs.declared.value.Value.{Value}
use Rattle.rpc_frames.specs.Frames.{framed}
use Rattle.lsp_server.specs.Serving.{PrintAll, Prints}

-- nothing is appended where nothing changed
pub appends_none : (a : Option (List ℕ)) → Appends a a []
appends_none None = tt
appends_none (Some xs) = sym (append-nil xs)

-- one append after another
pub appends_more : (a b c : Option (List ℕ)) (xs ys : List ℕ) → Appends a b xs → Appends b c ys
    → Appends a c (xs ++ ys)
appends_more None b c xs ys p q = tt
appends_more (Some ds) None c xs ys p q = absurd p
appends_more (Some ds) (Some bs) None xs ys p q = absurd q
appends_more (Some ds) (Some bs) (Some cs) xs ys p q =
    q ∙ ap (λ (zs : List ℕ). zs ++ ys) p ∙ append_assoc ds xs ys

-- what is kept after an append is appended
pub appends_kept : (a b c : Option (List ℕ)) (xs : List ℕ) → Appends a b xs → Keeps b c
    → Appends a c xs
appends_kept None b c xs p q = tt
appends_kept (Some ds) None c xs p q = absurd p
appends_kept (Some ds) (Some bs) None xs p q = absurd q
appends_kept (Some ds) (Some bs) (Some cs) xs p q = q ∙ p

-- nothing is read where nothing changed
pub consumes_none : (a : Option (List ℕ)) → Consumes a a []
consumes_none None = tt
consumes_none (Some xs) = refl

-- one read after another
pub consumes_more : (a b c : Option (List ℕ)) (xs ys : List ℕ) → Consumes a b xs → Consumes b c ys
    → Consumes a c (xs ++ ys)
consumes_more None b c xs ys p q = tt
consumes_more (Some ds) None c xs ys p q = absurd p
consumes_more (Some ds) (Some bs) None xs ys p q = absurd q
consumes_more (Some ds) (Some bs) (Some cs) xs ys p q =
    p ∙ ap (λ (zs : List ℕ). xs ++ zs) q ∙ sym (append_assoc xs ys cs)

-- the texts of messages, and of more of them
pub prints_more : (messages more : List Data) (texts others : List (List ℕ))
    → PrintAll messages texts → PrintAll more others → PrintAll (messages ++ more) (texts ++ others)
prints_more [] more [] others p q = q
prints_more [] more (text ∷ texts) others p q = absurd p
prints_more (message ∷ messages) more [] others p q = absurd p
prints_more (message ∷ messages) more (text ∷ texts) others p q =
    (p.0, prints_more messages more texts others p.1 q)

-- one more message has gone
pub sent_one : (messages : List Value) (i : ℕ) (message : Value) (texts : List (List ℕ))
    (text : List ℕ) (a b c : Option (List ℕ)) → i < length messages
    → message ≡ get_or messages i message → PrintAll (map view (take i messages)) texts
    → Prints (view message) text → Appends a b (flat_map framed texts) → Appends b c (framed text)
    → (all : List (List ℕ)) × PrintAll (map view (take (i + 1) messages)) all
    × Appends a c (flat_map framed all)
sent_one messages i message texts text a b c within is prints print went goes =
    let more : take (i + 1) messages ≡ take i messages ++ message ∷ [] =
    take_more messages i message within
    ∙ ap (λ (m : Value). take i messages ++ m ∷ []) (sym is) in
    let views : map view (take (i + 1) messages) ≡ map view (take i messages) ++ view message ∷ [] =
    ap (map view) more ∙ map-append view (take i messages) (message ∷ []) in
    let bytes : flat_map framed (texts ++ text ∷ []) ≡ flat_map framed texts ++ framed text =
    flat_map-append framed texts (text ∷ []) ∙ ap (λ (t : List ℕ). flat_map framed texts ++ t)
    (append-nil (framed text)) in (
      texts ++ text ∷ [],
      rw views (prints_more (map view (take i messages)) (view message ∷ []) texts
          (text ∷ []) prints (print, tt)),
      rw bytes (appends_more a b c (flat_map framed texts) (framed text) went goes),
    )
