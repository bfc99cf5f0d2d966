-- A call on a struct T that is lent by `&mut`: its code copies the struct out and passes it on by value, with the rest of the parameters, to a callee that answers with an
-- outcome O. What is passed besides the struct is `Rest`. The rules assume `Logic`.
use mathlib.Core.Path.{◌≡◌, refl, sym, subst, ap}
use Prim.Native.Nat.{ℕ}
use mathlib.Core.List.{[], ◌∷◌, ◌++◌, List}
use seplogic.Ra.Ura.{Ura}
use base.Fraction.{full_share}
use mir.Syntax.{Ty, Fn, Body as Code, Place, local, value_local, return}
use mir.Val.{Val}
use base.Logic.{SProp, ent, sep, via}
use base.Stored.{Gv}
use base.Fml.{GName, Lft, Share, Fml, ftrue, fsep, fat, froom, fdies, flft, fobs, fauth, fbor, fobor, fres}
use prog.Wp.{Env, Calls, Loops, WpFn}
use types.Logic.{Logic}
use types.Kit.{Goal, Soaks, Item, ‵, raw, some, later, ◌⊛◌, ⋆, mean, Post, Seq, Step, step, prop, runs, lands, at_ret, ◌$◌, ◌∵◌, !, qed}
use types.Kit.{by, move, keep, drop, use1, use2, split, join, pick, fsplit, fsplit3, fjoin, frame, await, done}
use types.Run.{look}
use types.SemTy.{Body}
use denote.Laws.{Is, Typed, shows}
use denote.Memory.{mem, cell_at}
use denote.Steps.{only, opens, closes, owned, peeks, nothing}
use denote.Struct.Declared.{Declared, fields, row}
use denote.Struct.Steps.{spelt}
use denote.Struct.Laws as LL
use denote.Struct.Struct.{Plains}
use denote.Triple.Clauses.{Clauses, Ended, Lasts, ensured}
use denote.Triple.Entry.{Res}
use denote.Triple.Spec.{Back}
use Rattle.walks.proofs.Told.{Met, ends, own-lasts, its-lasts, own-ensures, its-ensures, carried}
use Rattle.walks.proofs.Locals.{params_of, others-of, types_of, Spots, env, cells, begins, finishes}

module _ {M : Type 1} {𝓤 : Ura M} {𝓛 : Logic 𝓤} {Z : Type 0} where
  -- The parameters at entry: the borrow of the struct, its token and the others, and the rest.
  open 𝓛 use {H}

  pub comes-in : Z → {G : Goal 𝓤 H} {κ : Lft} {q : Share} {Toks : Item 𝓤} {I O B Rest : Fml}
      → Step Z 𝓛 (‵ O ∷ ‵ B ∷ ‵ (flft κ q) ∷ Toks ∷ ‵ Rest ∷ []) G
      (((‵ (flft κ q) ⊛ Toks) ⊛ ‵ (fsep (fsep I (fsep O B)) Rest)) ∷ ‵ ftrue ∷ []) G
  comes-in t = step (λ s. split t $ split t $ move t (2 ∷ []) $ fsplit t $ fsplit3 t $ keep t (1 ∷ 2 ∷ 4 ∷ 5 ∷ 3 ∷ []) $ s)

  -- The call is made: the outcome is its result, and what it ensures, `Ens`, is kept.
  module _ (O : Declared) (L : LL.Laws O) where
    pub comes_back : Z → {Γ : List (Item 𝓤)} {C : Calls 𝓤 H} {Λ : Loops 𝓤 H} {E : Env 𝓤 H} {d : Place} {more : Code} {p : Post 𝓤 H} {P : SProp 𝓤} (v : Val)
        (Toks : Item 𝓤) (Ens : O.D → SProp 𝓤) → ent 𝓤 P (mean 𝓛 (later (some (λ (r : O.D). (Toks ⊛ ‵ ((row O).own_val r (v ∷ []))) ⊛ raw (Ens r)))))
        → ((r : O.D) → Is (row O) r (LL.vals O L r) → Seq Z 𝓛 (raw (Ens r) ∷ Toks ∷ Γ) (lands C Λ E d (LL.val O L r) more p))
        → Seq Z 𝓛 (raw P ∷ Γ) (lands C Λ E d v more p)
    comes_back t {Γ} {C} {Λ} {E} {d} {more} {p} v Toks Ens said k =
        use1 𝓛 (later (some (λ (r : O.D). (Toks ⊛ ‵ ((row O).own_val r (v ∷ []))) ⊛ raw (Ens r)))) said $
        await t tt $ pick t (λ r. split t $ split t $ move t (1 ∷ []) $ peeks t (row O) (Is (row O)) (shows 𝓛 (row O)) r (v ∷ []) (λ is. drop t $ move t (1 ∷ 0 ∷ []) $
        let told : v ∷ [] ≡ LL.vals O L r = LL.tells O L r (v ∷ []) is in
        subst (λ (w : Val). Seq Z 𝓛 (raw (Ens r) ∷ Toks ∷ Γ) (lands C Λ E d w more p)) (sym (ap only told)) (k r (subst (Is (row O) r) told is))))

module _ (T : Declared) (L : LL.Laws T) (plain : Plains (fields T)) where
  module _ {M : Type 1} {𝓤 : Ura M} (𝓛 : Logic 𝓤) where
    -- What the callee asks: the struct by value, and the rest.
    pub goes_in : (Toks : Item 𝓤) (Rest : Fml) (h : T.D) → Is (row T) h (LL.vals T L h)
        → ent 𝓤 (mean 𝓛 (Toks ⊛ ‵ Rest)) (mean 𝓛 ((Toks ⊛ ‵ (fsep ((row T).own_val h (LL.vals T L h)) Rest)) ⊛ ‵ ftrue))
    goes_in Toks Rest h was =
        qed 𝓛 ((Toks ⊛ ‵ Rest) ∷ []) ∵ split ! $ move ! (1 ∷ []) $ owned ! (row T) (Is (row T)) (LL.makes T plain 𝓛) h _ was $ fjoin ! $
        move ! (1 ∷ 0 ∷ []) $ join ! $ frame ! $ nothing ! $ done !

  module _ {M : Type 1} {𝓤 : Ura M} {𝓛 : Logic 𝓤} {Z : Type 0} {Γ : List (Item 𝓤)} {G : Goal 𝓤 𝓛.H} {κ : Lft} {q : Share} {γ : GName} (b o : ℕ) where
    -- The borrow of the struct is opened, and closed at another.
    pub opens_at : Z → Soaks G → (h : T.D)
        → (Is (row T) h (LL.vals T L h)
        → Seq Z 𝓛 (‵ (cell_at full_share (row T).mir (LL.vals T L h) b o) ∷ ‵ (fobor κ q (Body (mem (row T)) b o γ))
        ∷ ‵ (fobs γ ((row T).coded.code h)) ∷ ‵ (fauth γ ((row T).coded.code h)) ∷ Γ) G)
        → Seq Z 𝓛 (‵ (fobs γ ((row T).coded.code h)) ∷ ‵ (fbor κ (Body (mem (row T)) b o γ)) ∷ ‵ (flft κ q) ∷ Γ) G
    opens_at t z h k =
        opens t z (row T) {h = h} b o (λ vs.
        spelt t (row T) (Is (row T)) (shows 𝓛 (row T)) (LL.vals T L) (LL.tells T L) full_share h vs b o $
        move t (1 ∷ []) $ peeks t (row T) (Is (row T)) (shows 𝓛 (row T)) h (LL.vals T L h) (λ was. drop t $ k was))

    pub closes_at : Z → Soaks G → {u v : Gv} (h : T.D) → Is (row T) h (LL.vals T L h)
        → Step Z 𝓛 (‵ (fobs γ ((row T).coded.code h)) ∷ ‵ (fbor κ (Body (mem (row T)) b o γ)) ∷ ‵ (flft κ q) ∷ Γ) G
        (‵ (cell_at full_share (row T).mir (LL.vals T L h) b o) ∷ ‵ (fobor κ q (Body (mem (row T)) b o γ)) ∷ ‵ (fobs γ u) ∷ ‵ (fauth γ v) ∷ Γ) G
    closes_at t z h is =
        step (λ s. owned t (row T) (Is (row T)) (LL.makes T plain 𝓛) h _ is $ move t (1 ∷ 0 ∷ []) $ closes t z (row T) h (LL.vals T L h) b o $ s)

    -- Closed for good: the struct's last value is said.
    pub closes-last : Z → Soaks G → {u v : Gv} (h : T.D) → Is (row T) h (LL.vals T L h)
        → Step Z 𝓛 (‵ (fres γ ((row T).coded.code h)) ∷ ‵ (flft κ q) ∷ Γ) G
        (‵ (cell_at full_share (row T).mir (LL.vals T L h) b o) ∷ ‵ (fobor κ q (Body (mem (row T)) b o γ)) ∷ ‵ (fobs γ u) ∷ ‵ (fauth γ v) ∷ Γ) G
    closes-last t z {u} {v} h is =
        step (λ s. owned t (row T) (Is (row T)) (LL.makes T plain 𝓛) h _ is $ move t (1 ∷ 0 ∷ []) $ closes t z (row T) h (LL.vals T L h) b o $
        use1 𝓛 (‵ (fres γ ((row T).coded.code h))) (𝓛.names.obs-res γ ((row T).coded.code h)) $ move t (1 ∷ []) $ drop t $ s)

  -- The walk's start: the parameters are set, the borrow of the struct is open.
  module _ {M : Type 1} {𝓤 : Ura M} {𝓛 : Logic 𝓤} {Z : Type 0} {κ : Lft} {q : Share} {γ : GName} {Toks : Item 𝓤} {I Rest : Fml} where
    open 𝓛 use {H}

    pub starts : Z → (C : Calls 𝓤 H) (Λ : Loops 𝓤 H) (f : Fn) (τ : Ty) → f.locals ≡ local τ value_local ∷ (params_of f ++ (others-of f ++ []))
        → (vs : List Val) → Typed (types_of (params_of f)) vs → {Kf : Val → SProp 𝓤} (b o : ℕ) (h : T.D)
        → ((l : ℕ) (s : Spots (params_of f)) (u : Spots (others-of f)) → Is (row T) h (LL.vals T L h)
        → let E : Env 𝓤 H = (τ, l) ∷ (env 𝓤 H (params_of f) s ++ (env 𝓤 H (others-of f) u ++ [])) in
        Seq Z 𝓛 (‵ (cell_at full_share (row T).mir (LL.vals T L h) b o) ∷ ‵ (fobor κ q (Body (mem (row T)) b o γ)) ∷ ‵ (fobs γ ((row T).coded.code h))
        ∷ ‵ (fauth γ ((row T).coded.code h)) ∷ Toks ∷ ‵ Rest ∷ ‵ (froom τ l 0) ∷ ‵ (fdies τ l) ∷ (cells 𝓤 H (params_of f) s vs ++ (cells 𝓤 H (others-of f) u [] ++ [])))
        (runs C Λ E f.body (at_ret E Kf)))
        → Seq Z 𝓛 (((‵ (flft κ q) ⊛ Toks) ⊛ ‵ (fsep (fsep I (fsep (fobs γ ((row T).coded.code h)) (fbor κ (Body (mem (row T)) b o γ)))) Rest)) ∷ ‵ ftrue ∷ [])
        (prop (WpFn 𝓤 H C Λ f vs Kf))
    starts t C Λ f τ is vs ok b o h k =
        comes-in t $ begins t C Λ f τ value_local is vs ok (‵ (fobs γ ((row T).coded.code h)) ∷ ‵ (fbor κ (Body (mem (row T)) b o γ)) ∷ ‵ (flft κ q) ∷ Toks ∷ ‵ Rest ∷ [])
        (λ l s u. opens_at b o t tt h (λ was. k l s u was))

  -- What is left at the end: the struct's last value, its token, what the callee ensures, and the other tokens. With the result, a struct too, it is what is ensured.
  module _ {M : Type 1} {𝓤 : Ura M} (κ : Lft) (q : Share) (γ : GName) (h : T.D) (Ens : SProp 𝓤) (Toks : Item 𝓤) where
    abbrev pub Kept : List (Item 𝓤)
    Kept = ‵ (fres γ ((row T).coded.code h)) ∷ ‵ (flft κ q) ∷ raw Ens ∷ Toks ∷ []

    pub leaves : (𝓛 : Logic 𝓤) (S : Declared) (R : LL.Laws S) → Plains (fields S) → (r : S.D) → Is (row S) r (LL.vals S R r)
        → (Q : SProp 𝓤) → ent 𝓤 (sep 𝓤 (𝓛.A.res γ ((row T).coded.code h)) Ens) Q
        → ent 𝓤 (⋆ 𝓛 Kept) (mean 𝓛 (((‵ (flft κ q) ⊛ Toks) ⊛ ‵ ((row S).own_val r (LL.vals S R r))) ⊛ raw Q))
    leaves 𝓛 S R S-plain r is Q on =
        qed 𝓛 Kept ∵ move ! (0 ∷ 2 ∷ []) $ use2 𝓛 (raw Q) on $ owned ! (row S) (Is (row S)) (LL.makes S S-plain 𝓛) r _ is $
        move ! (2 ∷ 3 ∷ []) $ join ! $ move ! (0 ∷ 1 ∷ []) $ join ! $ done !

  -- The walk's end: the locals are freed, and what is left is what the function ensures, by what its callee ensures.
  module _ {M : Type 1} {𝓤 : Ura M} {𝓛 : Logic 𝓤} {Z : Type 0} {C : Calls 𝓤 𝓛.H} {Λ : Loops 𝓤 𝓛.H} where
    open 𝓛 use {H, A}

    pub returned : Z → (F G : Ended) (c : Clauses 𝓤 F) (d : Clauses 𝓤 G) (y : (Met 𝓛 F c).Ghost) (x : (Met 𝓛 G d).Ghost) (κ : Lft) (q : Share) (γ : GName) (h : T.D)
        (Toks : Item 𝓤) (S : Declared) (R : LL.Laws S) → Plains (fields S) → (r : S.D) → Is (row S) r (LL.vals S R r)
        → (r' : Res F.signature y.0.0) (o : Res G.signature x.0.0)
        → let Q : SProp 𝓤 = ensured 𝓛 F c y.0.0 y.0.3 y.1 r' in
        ent 𝓤 (mean 𝓛 (((‵ (flft κ q) ⊛ Toks) ⊛ ‵ ((row S).own_val r (LL.vals S R r))) ⊛ raw Q)) (sep 𝓤 (Back 𝓛 F.signature y.0 (LL.val S R r) r') Q)
        → (last : Lasts G x.0.0 x.0.3 → Lasts F y.0.0 y.0.3)
        → ((z : Lasts G x.0.0 x.0.3) → ent 𝓤 (sep 𝓤 (A.res γ ((row T).coded.code h)) (its-lasts 𝓛 F G c d y x r' o z)) (own-lasts 𝓛 F G c d y x r' o (last z)))
        → ((z : Lasts G x.0.0 x.0.3) → ent 𝓤 (its-ensures 𝓛 F G c d y x r' o z) (own-ensures 𝓛 F G c d y x r' o (last z)))
        → (f : Fn) (τ : Ty) (l : ℕ) (s : Spots (params_of f)) (vs : List Val) (u : Spots (others-of f)) (us : List Val)
        → let E : Env 𝓤 H = (τ, l) ∷ (env 𝓤 H (params_of f) s ++ (env 𝓤 H (others-of f) u ++ [])) in
        Seq Z 𝓛 (Kept κ q γ h (ensured 𝓛 G d x.0.0 x.0.3 x.1 o) Toks ++ (‵ (fat full_share τ l 0 (LL.val S R r)) ∷ ‵ (fdies τ l)
        ∷ (cells 𝓤 H (params_of f) s vs ++ (cells 𝓤 H (others-of f) u us ++ [])))) (runs C Λ E return (at_ret E ((Met 𝓛 F c).post y)))
    returned t F G c d y x κ q γ h Toks S R S-plain r is r' o result last each said f τ l s vs u us =
        let Ens : SProp 𝓤 = ensured 𝓛 G d x.0.0 x.0.3 x.1 o in
        let on = carried 𝓛 F G c d y x r' o (A.res γ ((row T).coded.code h)) last each said in
        finishes t (Kept κ q γ h Ens Toks) f τ l (LL.val S R r) s vs u us (look t 4 refl)
        (by t (via 𝓤 _ (leaves κ q γ h Ens Toks 𝓛 S R S-plain r is _ on) (via 𝓤 _ result (ends 𝓛 F c y (LL.val S R r) r'))))
