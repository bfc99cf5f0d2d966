-- A function that is walked by hand meets its contract: the walk starts with its parameters' machine values written out, and ends at a result and at what is left of
-- the parameters. `meets` and the laws of the types assume `Logic`.
use mathlib.Core.List.{List, [], ◌∷◌}
use seplogic.Ra.Ura.{Ura}
use mir.Syntax.{Lifetime, w64}
use mir.Val.{Val}
use base.Logic.{SProp, ent, sep, wand, ex, via, mono∗, mono_l, assoc', comm∗, wand_i, apply∗, ex_i, ex∗}
use base.Fml.{Lft}
use types.Logic.{Logic, sem}
use contract.Monad.{Fun}
use contract.Lifetimes.{Lfts, Shares, AllOutlive}
use denote.RattleType.{RattleType, flat}
use denote.Laws.{Is, Tells, Lawful, Spells, valss, Tellss, Ises, Are, Lawfuls}
use denote.Plain.{uint_vals, uint_Tells, uint_Lawful, bool_vals, bool_Tells, bool_Lawful}
use denote.Builtin.{u8, u64, bool}
use denote.Ref.{MutRef, mut_vals, mut_Tells, mut_Lawful}
use denote.Slice.{MutSlice, ShrSlice, shr_slice_vals, mut_slice_vals, mut_slice_Tells, shr_slice_Tells, mut_slice_Lawful, shr_slice_Lawful}
use denote.Signature.{Signature, types_at}
use denote.Steps.{said}
use denote.Struct.Declared.{Declared, row}
use denote.Struct.Laws as LL
use denote.Triple.Entry.{Args, Vals, Res, on_entry}
use denote.Triple.Statement.{Contract}
use denote.Triple.Clauses.{Clauses, Ended, Lasts, at_exit, lasts, ensured, closing}
use denote.Triple.Spec.{Back, triple_of, Meets}

module _ {M : Type 1} {𝓤 : Ura M} (𝓛 : Logic 𝓤) where
  -- A type's machine values: which they are, that it tells them, and that they are of its MIR types.
  pub record Told (R : RattleType) : Type 1 where
    pub vals : R.Denot → List Val
    pub tells : Tells R (Is R) vals
    pub lawful : Lawful 𝓛 R

  -- The same of a list of types, as a function's parameters are.
  abbrev pub Tolds : List RattleType → Type 1
  Tolds [] = Unit {1}
  Tolds (R ∷ Rs) = Told R × Tolds Rs

  abbrev pub spelt : (Rs : List RattleType) → Tolds Rs → Spells Rs
  spelt [] ts = tt
  spelt (R ∷ Rs) ts = (ts.0.vals, spelt Rs ts.1)

  abbrev pub telling : (Rs : List RattleType) (ts : Tolds Rs) → Tellss Rs (Ises Rs) (spelt Rs ts)
  telling [] ts = tt
  telling (R ∷ Rs) ts = (ts.0.tells, telling Rs ts.1)

  abbrev pub laws : (Rs : List RattleType) → Tolds Rs → Lawfuls 𝓛 Rs
  laws [] ts = tt
  laws (R ∷ Rs) ts = (ts.0.lawful, laws Rs ts.1)

module _ {M : Type 1} {𝓤 : Ura M} (𝓛 : Logic 𝓤) where
  abbrev pub number : Told 𝓛 u64
  number = record { vals = uint_vals w64; tells = uint_Tells w64; lawful = uint_Lawful 𝓛 w64 }

  abbrev pub flag : Told 𝓛 bool
  flag = record { vals = bool_vals; tells = bool_Tells; lawful = bool_Lawful 𝓛 }

  abbrev pub structure : (T : Declared) (L : LL.Laws T) → Told 𝓛 (row T)
  structure T L = record { vals = LL.vals T L; tells = LL.tells T L; lawful = LL.lawful T L 𝓛 }

  module _ (ℓ : Lifetime) (κ : Lft) where
    abbrev pub borrowed : (R : RattleType) → Told 𝓛 (MutRef ℓ κ R)
    borrowed R = record { vals = mut_vals; tells = mut_Tells ℓ κ R; lawful = mut_Lawful 𝓛 ℓ κ R }

    abbrev pub lent-bytes : Told 𝓛 (MutSlice ℓ κ u8)
    lent-bytes = record { vals = mut_slice_vals; tells = mut_slice_Tells ℓ κ u8; lawful = mut_slice_Lawful 𝓛 ℓ κ u8 }

    abbrev pub bytes : Told 𝓛 (ShrSlice ℓ κ u8)
    bytes = record { vals = shr_slice_vals; tells = shr_slice_Tells ℓ κ u8; lawful = shr_slice_Lawful 𝓛 ℓ κ u8 }

module _ {M : Type 1} {𝓤 : Ura M} (𝓛 : Logic 𝓤) (T : Ended) (c : Clauses 𝓤 T) where
  abbrev S : Signature
  S = T.signature

  abbrev pub Met : Contract 𝓤
  Met = triple_of 𝓛 S (closing 𝓛 T c)

  module _ (y : Met.Ghost) (v : Val) where
    abbrev κs : Lfts S.lifetimes
    κs = y.0.0

    abbrev a : Args S κs
    a = y.0.3

    -- The end: the tokens, the result, and what is ensured.
    pub ends : (r : Res S κs) → ent 𝓤 (sep 𝓤 (Back 𝓛 S y.0 v r) (ensured 𝓛 T c κs a y.1 r)) (Met.post y v)
    ends r =
        let P : Res S κs → SProp 𝓤 = λ r'. sep 𝓤 (Back 𝓛 S y.0 v r') (ensured 𝓛 T c κs a y.1 r') in
        via 𝓤 (ex 𝓤 P) (ex_i 𝓤 P r) (𝓛.laws.⇛_intro _)

  module _ (tolds : (κs : Lfts S.lifetimes) → Tolds 𝓛 (types_at S.params κs)) where
    -- the parameters' machine values, written out
    abbrev pub written : (κs : Lfts S.lifetimes) → Args S κs → Vals S κs
    written κs a = valss (types_at S.params κs) (spelt 𝓛 (types_at S.params κs) (tolds κs)) a

    abbrev pub Told-of : (κs : Lfts S.lifetimes) → Args S κs → Type 0
    Told-of κs a = Are (types_at S.params κs) (Ises (types_at S.params κs)) a (written κs a)

    pub meets : (run : Fun 𝓤)
        → ((κs : Lfts S.lifetimes) (qs : Shares S.lifetimes) (bounds : AllOutlive S.lifetimes S.outlives κs) (a : Args S κs) (g : (c κs a).ghost) → Told-of κs a
        → ent 𝓤 (sep 𝓤 (on_entry 𝓛 S κs qs a (written κs a)) ((c κs a).requires g))
        (run (flat (types_at S.params κs) (written κs a)) (Met.post ((κs, qs, bounds, a, written κs a), g))))
        → Meets 𝓛 S run (closing 𝓛 T c)
    meets run k y =
        let κs : Lfts S.lifetimes = y.0.0 in
        let ts : Tolds 𝓛 (types_at S.params κs) = tolds κs in
        let R : SProp 𝓤 = (c κs y.0.3).requires y.1 in
        let Q : Vals S κs → SProp 𝓤 = λ us. run (flat (types_at S.params κs) us) (Met.post ((κs, y.0.1, y.0.2, y.0.3, us), y.1)) in
        via 𝓤 (sep 𝓤 R (wand 𝓤 R (Q y.0.4)))
        (via 𝓤 (sep 𝓤 (wand 𝓤 R (Q y.0.4)) R)
        (mono_l 𝓤 R (said 𝓛 S κs y.0.1 (spelt 𝓛 (types_at S.params κs) ts) (telling 𝓛 (types_at S.params κs) ts) y.0.3
        (λ us. wand 𝓤 R (Q us)) y.0.4 (λ are. wand_i 𝓤 _ R _ (k κs y.0.1 y.0.2 y.0.3 y.1 are))))
        (comm∗ 𝓤 (wand 𝓤 R (Q y.0.4)) R))
        (apply∗ 𝓤 R (Q y.0.4))

-- What a callee ensures, with R, is what its caller ensures: each last value gives another.
module _ {M : Type 1} {𝓤 : Ura M} (𝓛 : Logic 𝓤) (F G : Ended) (c : Clauses 𝓤 F) (d : Clauses 𝓤 G) (y : (Met 𝓛 F c).Ghost) (x : (Met 𝓛 G d).Ghost)
    (r : Res F.signature y.0.0) (u : Res G.signature x.0.0) where
  abbrev pub own-lasts : Lasts F y.0.0 y.0.3 → SProp 𝓤
  own-lasts w = sem 𝓛 (lasts F y.0.0 y.0.3 w)

  abbrev pub its-lasts : Lasts G x.0.0 x.0.3 → SProp 𝓤
  its-lasts z = sem 𝓛 (lasts G x.0.0 x.0.3 z)

  abbrev pub own-ensures : Lasts F y.0.0 y.0.3 → SProp 𝓤
  own-ensures w = (c y.0.0 y.0.3).ensures y.1 r (at_exit F y.0.0 y.0.3 w)

  abbrev pub its-ensures : Lasts G x.0.0 x.0.3 → SProp 𝓤
  its-ensures z = (d x.0.0 x.0.3).ensures x.1 u (at_exit G x.0.0 x.0.3 z)

  pub carried : (R : SProp 𝓤) (last : Lasts G x.0.0 x.0.3 → Lasts F y.0.0 y.0.3)
      → ((z : Lasts G x.0.0 x.0.3) → ent 𝓤 (sep 𝓤 R (its-lasts z)) (own-lasts (last z)))
      → ((z : Lasts G x.0.0 x.0.3) → ent 𝓤 (its-ensures z) (own-ensures (last z)))
      → ent 𝓤 (sep 𝓤 R (ensured 𝓛 G d x.0.0 x.0.3 x.1 u)) (ensured 𝓛 F c y.0.0 y.0.3 y.1 r)
  carried R last each said =
      let its : Lasts G x.0.0 x.0.3 → SProp 𝓤 = λ z. sep 𝓤 (its-lasts z) (its-ensures z) in
      let own : Lasts F y.0.0 y.0.3 → SProp 𝓤 = λ w. sep 𝓤 (own-lasts w) (own-ensures w) in
      via 𝓤 _ (comm∗ 𝓤 R (ex 𝓤 its)) (ex∗ 𝓤 its R (λ z. via 𝓤 _ (comm∗ 𝓤 (its z) R) (via 𝓤 _ (assoc' 𝓤 R (its-lasts z) (its-ensures z))
      (via 𝓤 (own (last z)) (mono∗ 𝓤 (each z) (said z)) (ex_i 𝓤 own (last z))))))
