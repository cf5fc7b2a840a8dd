-- A run, step by step. (For `serve`.)
use Rattle.std.proofs.Common.{◌≡◌, ◌∙◌, ℕ, List, [], ◌∷◌, ◌++◌, map, refl, sym, ap, subst, inl, inr, append_assoc, append-nil, codes, Option, Some, None}
use Rattle.std.specs.List.{flat_map}
use Rattle.std.proofs.lemmas.Grind.{flat_map-append}
use Rattle.std.proofs.lemmas.List.{map-append}
use Rattle.std.specs.Io.KnownBytes.{Appends, Consumes}
use Rattle.serde_json.specs.Data.{Data}
use Rattle.serde_json.specs.Find.{get}
use Rattle.rpc_messages.specs.Messages.{answered, with_id}
use Rattle.rpc_frames.specs.Frames.{Frame, IsFrame, bytes_of, framed}
use Rattle.rpc_frames.specs.Streams.{AreFrames, stream_of}
use Rattle.client_texts.specs.Texts.{Document}
use Rattle.lsp_server.specs.Serving.{Answers, AreAsked, Runs, Served, all_of}
use Rattle.lsp_server.specs.Steps.{Serving, Steps}
use Rattle.lsp_server.specs.Turns.{Turns}
use Rattle.lsp_server.proofs.SendLemmas.{appends_more, consumes_more, prints_more}

-- a run up to here, with this rest of what came
abbrev pub ServedTo : {W : Type 0} → (W → List Document) → (old new : Serving W)
    → (comes goes : List ℕ → Type 0) → (rest : List ℕ) → Type 0
ServedTo documents old new comes goes rest =
    (s : Served documents old new comes goes) × (s.rest ≡ rest)

-- a run of no steps
pub served_none : {W : Type 0} (documents : W → List Document) (old : Serving W)
    (comes goes : List ℕ → Type 0) → comes [] → goes [] → ServedTo documents old old comes goes []
served_none documents old comes goes came went = (
  record {
    frames = [];
    are = tt;
    rest = [];
    came = came;
    outs = [];
    runs = refl;
    once = refl;
    texts = [];
    prints = tt;
    went = went;
  },
  refl,
)

-- one more piece has come
pub served_piece : {W : Type 0} (documents : W → List Document) (old new : Serving W)
    (a b c : Option (List ℕ)) (goes : List ℕ → Type 0) (rest more piece : List ℕ)
    → ServedTo documents old new (Consumes a b) goes rest → Consumes b c piece
    → more ≡ rest ++ piece
    → ServedTo documents old new (Consumes a c) goes more
served_piece documents old new a b c goes rest more piece to comes is =
    let s = to.0 in
    let stream : stream_of s.frames (s.rest ++ piece) ≡ stream_of s.frames s.rest ++ piece =
    sym (append_assoc (flat_map bytes_of s.frames) s.rest piece) in (
      record {
        frames = s.frames;
        are = s.are;
        rest = s.rest ++ piece;
        came = rw stream (consumes_more a b c (stream_of s.frames s.rest) piece s.came comes);
        outs = s.outs;
        runs = s.runs;
        once = s.once;
        texts = s.texts;
        prints = s.prints;
        went = s.went;
      },
      ap (λ (r : List ℕ). r ++ piece) to.1 ∙ sym is,
    )

-- nothing more has gone
served_same : {W : Type 0} (documents : W → List Document) (old new : Serving W)
    (comes : List ℕ → Type 0) (x y z : Option (List ℕ)) (rest : List ℕ)
    → ServedTo documents old new comes (Appends x y) rest → Appends y z []
    → ServedTo documents old new comes (Appends x z) rest
served_same documents old new comes x y z rest to goes =
    let s = to.0 in (
      record {
        frames = s.frames;
        are = s.are;
        rest = s.rest;
        came = s.came;
        outs = s.outs;
        runs = s.runs;
        once = s.once;
        texts = s.texts;
        prints = s.prints;
        went = rw (← append-nil (flat_map framed s.texts)) (appends_more x y z
            (flat_map framed s.texts) [] s.went goes);
      },
      to.1,
    )

-- one more step of a run
runs_more : {W : Type 0} (documents : W → List Document) (old middle new : Serving W)
    (bodies : List (List ℕ)) (outs : List (List Data)) (body : List ℕ) (messages : List Data)
    → Runs documents old bodies outs middle → Steps documents middle body messages new
    → Runs documents old (bodies ++ body ∷ []) (outs ++ messages ∷ []) new
runs_more {W} documents old middle new [] [] body messages runs step =
    (new, subst (λ (m : Serving W). Steps documents m body messages new) runs step, refl)
runs_more documents old middle new [] (o ∷ os) body messages runs step = absurd runs
runs_more documents old middle new (b ∷ bs) [] body messages runs step = absurd runs
runs_more documents old middle new (b ∷ bs) (o ∷ os) body messages runs step =
    (runs.0, runs.1, runs_more documents runs.0 middle new bs os body messages runs.2 step)

are_more : (frames : List Frame) (f : Frame) → AreFrames frames → IsFrame f
    → AreFrames (frames ++ f ∷ [])
are_more [] f are is = (is, tt)
are_more (g ∷ gs) f are is = (are.0, are_more gs f are.1 is)

-- the ids of the answers among messages, and more of them
with_id-append : (id : Option Data) (ids more : List Data) → with_id id (ids ++ more)
    ≡ with_id id ids ++ more
with_id-append None ids more = refl
with_id-append (Some id) ids more = refl

answered-append : (messages more : List Data) → answered (messages ++ more)
    ≡ answered messages ++ answered more
answered-append [] more = refl
answered-append (m ∷ ms) more =
    ap (λ (ids : List Data). with_id (get (codes "id") m) ids) (answered-append ms more)
    ∙ with_id-append (get (codes "id") m) (answered ms) (answered more)

-- in a run each request is answered once
answered_once : {W : Type 0} (documents : W → List Document) (old new : Serving W)
    (bodies : List (List ℕ)) (outs : List (List Data)) → Runs documents old bodies outs new
    → AreAsked bodies (answered (all_of outs))
answered_once documents old new [] [] runs = refl
answered_once documents old new [] (o ∷ os) runs = absurd runs
answered_once documents old new (b ∷ bs) [] runs = absurd runs
answered_once documents old new (b ∷ bs) (o ∷ os) runs =
    let step = runs.1 in (
      step.message,
      answered (all_of os),
      step.reads,
      answered-append o (all_of os)
          ∙ ap (λ (ids : List Data). ids ++ answered (all_of os)) step.takes.each_answered,
      answered_once documents runs.0 new bs os runs.2,
    )

-- one more frame is taken, and answered
pub served_frame : {W : Type 0} (documents : W → List Document) (old middle new : Serving W)
    (comes : List ℕ → Type 0) (x y z : Option (List ℕ)) (rest more body : List ℕ) (f : Frame)
    → ServedTo documents old middle comes (Appends x y) rest → IsFrame f
    → rest ≡ bytes_of f ++ more
    → f.body ≡ body → Answers documents middle body new (Appends y z)
    → ServedTo documents old new comes (Appends x z) more
served_frame documents old middle new comes x y z rest more body f to is cut same answers =
    let s = to.0 in
    let last : flat_map bytes_of (f ∷ []) ++ more ≡ s.rest =
    ap (λ (bs : List ℕ). bs ++ more) (append-nil (bytes_of f)) ∙ sym cut ∙ sym to.1 in
    let stream : stream_of (s.frames ++ f ∷ []) more ≡ stream_of s.frames s.rest =
    ap (λ (bs : List ℕ). bs ++ more) (flat_map-append bytes_of s.frames (f ∷ []))
    ∙ append_assoc (flat_map bytes_of s.frames) (flat_map bytes_of (f ∷ [])) more
    ∙ ap (λ (bs : List ℕ). flat_map bytes_of s.frames ++ bs) last in
    let bodies : map (λ (g : Frame). g.body) (s.frames ++ f ∷ [])
    ≡ map (λ (g : Frame). g.body) s.frames ++ body ∷ [] =
    map-append (λ (g : Frame). g.body) s.frames (f ∷ [])
    ∙ ap (λ (b : List ℕ). map (λ (g : Frame). g.body) s.frames ++ b ∷ []) same in
    let all : all_of (s.outs ++ answers.outs ∷ []) ≡ all_of s.outs ++ answers.outs =
    flat_map-append (λ (messages : List Data). messages) s.outs (answers.outs ∷ [])
    ∙ ap (λ (ds : List Data). all_of s.outs ++ ds) (append-nil answers.outs) in
    let bytes : flat_map framed (s.texts ++ answers.texts)
    ≡ flat_map framed s.texts ++ flat_map framed answers.texts =
    flat_map-append framed s.texts answers.texts in
    let runs : Runs documents old (map (λ (g : Frame). g.body) s.frames ++ body ∷ [])
    (s.outs ++ answers.outs ∷ []) new =
    runs_more documents old middle new (map (λ (g : Frame). g.body) s.frames) s.outs body
    answers.outs s.runs answers.steps in (
      record {
        frames = s.frames ++ f ∷ [];
        are = are_more s.frames f s.are is;
        rest = more;
        came = rw stream s.came;
        outs = s.outs ++ answers.outs ∷ [];
        runs = rw bodies runs;
        once = rw bodies (answered_once documents old new (map (λ
            (g : Frame). g.body) s.frames ++ body ∷ []) (s.outs ++ answers.outs ∷ []) runs);
        texts = s.texts ++ answers.texts;
        prints = rw all (prints_more
            (all_of s.outs) answers.outs s.texts answers.texts s.prints answers.prints);
        went = rw bytes (appends_more x y z (flat_map framed s.texts)
            (flat_map framed answers.texts) s.went answers.went);
      },
      refl,
    )

-- one more turn
pub served_turn : {W : Type 0} (documents : W → List Document) (old middle new : Serving W)
    (a b c x y z : Option (List ℕ)) (rest more : List ℕ)
    → ServedTo documents old middle (Consumes a b) (Appends x y) rest
    → Turns documents rest more middle new (Consumes b c) (Appends y z)
    → ServedTo documents old new (Consumes a c) (Appends x z) more
served_turn {W} documents old middle new a b c x y z rest more to (inl takes) =
    let t = takes.0 in
    let read : ServedTo documents old middle (Consumes a c) (Appends x y) rest =
    served_piece documents old middle a b c (Appends x y) rest rest [] to takes.1 (sym
    (append-nil rest)) in
    served_frame documents old middle new (Consumes a c) x y z rest more t.frame.body t.frame read
    t.is t.cut refl t.answers
served_turn {W} documents old middle new a b c x y z rest more to (inr comes) =
    let wrote : ServedTo documents old middle (Consumes a b) (Appends x z) rest =
    served_same documents old middle (Consumes a b) x y z rest to comes.4 in
    let read : ServedTo documents old middle (Consumes a c) (Appends x z) more =
    served_piece documents old middle a b c (Appends x z) rest more comes.0 wrote comes.2 comes.1 in
    subst (λ (s : Serving W). ServedTo documents old s (Consumes a c) (Appends x z) more)
    (sym comes.3) read
