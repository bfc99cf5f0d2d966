-- A function's locals, from its entry to its end: each has its place, the parameters are set, and in the end all are freed. A context has them in the order of the
-- function, local i at entry 2 * i. The rules assume `Logic`.
use mathlib.Core.Path.{◌≡◌, refl, sym, ap, ◌∙◌, subst}
use Prim.Native.Nat.{ℕ, zero, suc, ◌+◌}
use mathlib.Core.Option.{some}
use mathlib.Core.List.{List, [], ◌∷◌, ◌++◌}
use lib.ListN.{take, drop}
use seplogic.Ra.Ura.{Ura}
use base.Fraction.{full_share}
use mir.Syntax.{Ty, ty_int, ty_ref, w64, Lifetime, Mutability, Fn, Home, value_local, Local, local, Opd as Operand, copy, addr_of, place, field, deref, return}
use mir.Val.{Val, Vals, vint, vptr, vstruct, vcons, vnil, of_list}
use mir.Fields.{get_v, set_v}
use base.Logic.{SProp, ent, sep, emp, emp∗, via, comm∗, assoc∗, assoc', mono_l, mono_r}
use base.Fml.{Share, fat, froom, fdies}
use prog.Memory.{field_of}
use prog.Wp.{Heap, Env, Calls, Loops, WpFn, spot_of}
use types.Logic.{Logic}
use types.Kit.{Goal, Item, ‵, ⋆, nth, del, sel⊢, aim, Seq, Step, step, ◌$◌, by, ++⊢, ⊢++, runs, at_ret, prop, allocs, params', passes, frees}
use types.Run.{Reads, Walks, Opd, Opds, Rv, returns, look, stop, hop, fld, from, load, addr, and_then, enter, alloc1, alloc0, params1, pass1, pass0, init, forget, free1, free0}
use types.Part.{Part, whole, sub, look_in}
use denote.RattleType.{flat}
use denote.Laws.{Typed, valss}
use denote.Slice.{slice_ty, slice_val}
use denote.Struct.Declared.{Declared, fields, shape}
use denote.Struct.Laws as LL
use denote.Struct.Struct.{layout}

-- The types of locals, and a place for each.
abbrev pub types_of : List Local → List Ty
types_of [] = []
types_of (local τ h ∷ ls) = τ ∷ types_of ls

abbrev pub Spots : List Local → Type 0
Spots [] = Unit {0}
Spots (l ∷ ls) = ℕ × Spots ls

-- A function's parameters, and the locals after them.
abbrev pub params_of : Fn → List Local
params_of f = take f.params (drop 1 f.locals)

abbrev pub others-of : Fn → List Local
others-of f = drop (suc f.params) f.locals

module _ {M : Type 1} (𝓤 : Ura M) (H : Heap 𝓤) where
  abbrev pub env : (ls : List Local) → Spots ls → Env 𝓤 H
  env [] s = []
  env (local τ h ∷ ls) s = (τ, s.0) ∷ env ls s.1

  -- those that are set hold vs, the first ones
  abbrev pub cells : (ls : List Local) → Spots ls → List Val → List (Item 𝓤)
  cells [] s vs = []
  cells (local τ h ∷ ls) s [] = ‵ (froom τ s.0 zero) ∷ ‵ (fdies τ s.0) ∷ cells ls s.1 []
  cells (local τ h ∷ ls) s (v ∷ vs) = ‵ (fat full_share τ s.0 zero v) ∷ ‵ (fdies τ s.0) ∷ cells ls s.1 vs

module _ {M : Type 1} {𝓤 : Ura M} {𝓛 : Logic 𝓤} {K : Type 0} where
  -- Two parts of a context change places.
  open 𝓛 use {H}

  pub swaps : {G : Goal 𝓤 H} (Θ Δ Γ : List (Item 𝓤)) → Seq K 𝓛 (Δ ++ (Θ ++ Γ)) G → Seq K 𝓛 (Θ ++ (Δ ++ Γ)) G
  swaps Θ Δ Γ s =
      let θ : SProp 𝓤 = ⋆ 𝓛 Θ in
      let δ : SProp 𝓤 = ⋆ 𝓛 Δ in
      let γ : SProp 𝓤 = ⋆ 𝓛 Γ in
      record {
        prf =
            via 𝓤 _ (⊢++ 𝓛 Θ (Δ ++ Γ)) (via 𝓤 _ (mono_r 𝓤 θ (⊢++ 𝓛 Δ Γ))
            (via 𝓤 _ (assoc' 𝓤 θ δ γ) (via 𝓤 _ (mono_l 𝓤 γ (comm∗ 𝓤 θ δ)) (via 𝓤 _ (assoc∗ 𝓤 δ θ γ)
            (via 𝓤 _ (mono_r 𝓤 δ (++⊢ 𝓛 Θ Γ)) (via 𝓤 _ (++⊢ 𝓛 Δ (Θ ++ Γ)) s.prf))))));
      }

  allocated : K → (ls : List Local) {rest : List Local} {Kt : Env 𝓤 H → Goal 𝓤 H} {Γ : List (Item 𝓤)}
      → ((s : Spots ls) → Seq K 𝓛 (cells 𝓤 H ls s [] ++ Γ) (allocs rest (λ E. Kt (env 𝓤 H ls s ++ E)))) → Seq K 𝓛 Γ (allocs (ls ++ rest) Kt)
  allocated t [] k = k tt
  allocated t (local τ h ∷ ls) {rest} {Kt} {Γ} k =
      alloc1 t (λ b. allocated t ls {Kt = λ E. Kt ((τ, b) ∷ E)} (λ s. swaps (cells 𝓤 H ls s []) (‵ (froom τ b zero) ∷ ‵ (fdies τ b) ∷ []) Γ (k (b, s))))

  passed : K → (ls : List Local) (s : Spots ls) (vs : List Val) → Typed (types_of ls) vs → (E : Env 𝓤 H) (Γ : List (Item 𝓤)) {g : Goal 𝓤 H}
      → Seq K 𝓛 (cells 𝓤 H ls s vs ++ Γ) g → Seq K 𝓛 (cells 𝓤 H ls s [] ++ Γ) (passes (env 𝓤 H ls s ++ E) vs g)
  passed t [] s [] ok E Γ k = pass0 t $ k
  passed t [] s (v ∷ vs) ok E Γ k = absurd ok
  passed t (local τ h ∷ ls) s [] ok E Γ k = absurd ok
  passed t (local τ h ∷ ls) s (v ∷ vs) ok E Γ k =
      let set : List (Item 𝓤) = ‵ (fat full_share τ s.0 zero v) ∷ ‵ (fdies τ s.0) ∷ [] in
      pass1 t (init t 0 refl ok.0) $ swaps set (cells 𝓤 H ls s.1 []) Γ (passed t ls s.1 vs ok.1 E (set ++ Γ) (swaps (cells 𝓤 H ls s.1 vs) set Γ k))

  ready : K → (τ : Ty) (b : ℕ) (ps ts : List Local) (s : Spots ps) (u : Spots ts) (vs : List Val) → Typed (types_of ps) vs → (E : Env 𝓤 H) (Γ : List (Item 𝓤)) {g : Goal 𝓤 H}
      → Seq K 𝓛 (‵ (froom τ b zero) ∷ ‵ (fdies τ b) ∷ (cells 𝓤 H ps s vs ++ (cells 𝓤 H ts u [] ++ Γ))) g
      → Seq K 𝓛 (cells 𝓤 H ts u [] ++ (‵ (froom τ b zero) ∷ ‵ (fdies τ b) ∷ (cells 𝓤 H ps s [] ++ Γ))) (params' ((τ, b) ∷ (env 𝓤 H ps s ++ E)) vs g)
  ready t τ b ps ts s u vs ok E Γ k =
      let first : List (Item 𝓤) = ‵ (froom τ b zero) ∷ ‵ (fdies τ b) ∷ [] in
      let rest : List (Item 𝓤) = cells 𝓤 H ts u [] ++ Γ in
      swaps (cells 𝓤 H ts u []) (first ++ cells 𝓤 H ps s []) Γ
      (params1 t $ swaps first (cells 𝓤 H ps s []) rest (passed t ps s vs ok E (first ++ rest) (swaps (cells 𝓤 H ps s vs) first rest k)))

  -- a part of a context comes to the front
  fronted : {G : Goal 𝓤 H} (Θ Δ Γ : List (Item 𝓤)) → Seq K 𝓛 (Γ ++ (Θ ++ (Δ ++ []))) G → Seq K 𝓛 (Θ ++ (Δ ++ Γ)) G
  fronted Θ Δ Γ s =
      let θ : SProp 𝓤 = ⋆ 𝓛 Θ in
      let δ : SProp 𝓤 = ⋆ 𝓛 Δ in
      let γ : SProp 𝓤 = ⋆ 𝓛 Γ in
      let ended : ent 𝓤 δ (⋆ 𝓛 (Δ ++ [])) = via 𝓤 _ (emp∗ 𝓤 δ) (via 𝓤 _ (comm∗ 𝓤 (emp 𝓤) δ) (++⊢ 𝓛 Δ [])) in
      record {
        prf =
            via 𝓤 _ (⊢++ 𝓛 Θ (Δ ++ Γ)) (via 𝓤 _ (mono_r 𝓤 θ (⊢++ 𝓛 Δ Γ)) (via 𝓤 _ (assoc' 𝓤 θ δ γ) (via 𝓤 _ (comm∗ 𝓤 (sep 𝓤 θ δ) γ)
            (via 𝓤 _ (mono_r 𝓤 γ (mono_r 𝓤 θ ended)) (via 𝓤 _ (mono_r 𝓤 γ (++⊢ 𝓛 Θ (Δ ++ []))) (via 𝓤 _ (++⊢ 𝓛 Γ (Θ ++ (Δ ++ []))) s.prf))))));
      }

  -- A function is entered: its result, its parameters, which hold vs, and its other locals, after what was there.
  pub begins : K → (C : Calls 𝓤 H) (Λ : Loops 𝓤 H) (f : Fn) (τ : Ty) (h : Home) → f.locals ≡ local τ h ∷ (params_of f ++ (others-of f ++ []))
      → (vs : List Val) → Typed (types_of (params_of f)) vs → (Γ : List (Item 𝓤)) {Kf : Val → SProp 𝓤}
      → ((b : ℕ) (s : Spots (params_of f)) (u : Spots (others-of f))
      → let E : Env 𝓤 H = (τ, b) ∷ (env 𝓤 H (params_of f) s ++ (env 𝓤 H (others-of f) u ++ [])) in
      Seq K 𝓛 (Γ ++ (‵ (froom τ b zero) ∷ ‵ (fdies τ b) ∷ (cells 𝓤 H (params_of f) s vs ++ (cells 𝓤 H (others-of f) u [] ++ [])))) (runs C Λ E f.body (at_ret E Kf)))
      → Seq K 𝓛 Γ (prop (WpFn 𝓤 H C Λ f vs Kf))
  begins t C Λ f τ h is vs ok Γ {Kf} k =
      let ps : List Local = params_of f in
      let ts : List Local = others-of f in
      let enters : Env 𝓤 H → Goal 𝓤 H = λ E. params' E vs (runs C Λ E f.body (at_ret E Kf)) in
      enter t C Λ f vs Kf $ subst (λ (ls : List Local). Seq K 𝓛 Γ (allocs ls enters)) (sym is)
      (allocated t (local τ h ∷ ps) {Kt = enters} (λ s. allocated t ts {Kt = λ E. enters (env 𝓤 H (local τ h ∷ ps) s ++ E)} (λ u.
      alloc0 t $ ready t τ s.0 ps ts s.1 u vs ok (env 𝓤 H ts u ++ []) Γ
      (fronted (‵ (froom τ s.0 zero) ∷ ‵ (fdies τ s.0) ∷ cells 𝓤 H ps s.1 vs) (cells 𝓤 H ts u []) Γ (k s.0 s.1 u)))))

  -- Locals are freed, the first ones of those that are left.
  freed : K → (ls : List Local) (s : Spots ls) (vs : List Val) {E : Env 𝓤 H} {g : Goal 𝓤 H} {Γ : List (Item 𝓤)}
      → Seq K 𝓛 Γ (frees E g) → Seq K 𝓛 (cells 𝓤 H ls s vs ++ Γ) (frees (env 𝓤 H ls s ++ E) g)
  freed t [] s vs k = k
  freed t (local τ h ∷ ls) s [] k = free1 t $ freed t ls s.1 [] k
  freed t (local τ h ∷ ls) s (v ∷ vs) k = forget t 0 refl $ free1 t $ freed t ls s.1 vs k

  behind : K → (Θ : List (Item 𝓤)) (ls : List Local) (s : Spots ls) (vs : List Val) (Γ : List (Item 𝓤)) {E : Env 𝓤 H} {g : Goal 𝓤 H}
      → Seq K 𝓛 (Θ ++ Γ) (frees E g) → Seq K 𝓛 (Θ ++ (cells 𝓤 H ls s vs ++ Γ)) (frees (env 𝓤 H ls s ++ E) g)
  behind t Θ ls s vs Γ k = swaps Θ (cells 𝓤 H ls s vs) Γ (freed t ls s vs k)

  -- A function returns v: all locals are freed, and Θ is left.
  pub finishes : K → {C : Calls 𝓤 H} {Λ : Loops 𝓤 H} {Kf : Val → SProp 𝓤} (Θ : List (Item 𝓤)) (f : Fn) (τ : Ty) (b : ℕ) (v : Val)
      (s : Spots (params_of f)) (vs : List Val) (u : Spots (others-of f)) (us : List Val)
      → let E : Env 𝓤 H = (τ, b) ∷ (env 𝓤 H (params_of f) s ++ (env 𝓤 H (others-of f) u ++ [])) in
      let Γ : List (Item 𝓤) = Θ ++ (‵ (fat full_share τ b zero v) ∷ ‵ (fdies τ b) ∷ (cells 𝓤 H (params_of f) s vs ++ (cells 𝓤 H (others-of f) u us ++ []))) in
      Reads K 𝓛 Γ τ b zero v → Seq K 𝓛 (Θ ++ []) (prop (Kf v)) → Seq K 𝓛 Γ (runs C Λ E return (at_ret E Kf))
  finishes t Θ f τ b v s vs u us is k =
      let ps : List Local = params_of f in
      let ts : List Local = others-of f in
      returns t is $ behind t Θ (local τ value_local ∷ []) (b, tt) (v ∷ []) (cells 𝓤 H ps s vs ++ (cells 𝓤 H ts u us ++ []))
      (behind t Θ ps s vs (cells 𝓤 H ts u us ++ []) (behind t Θ ts u us [] (free0 t $ k)))

-- A struct's fields, as the machine holds them.
abbrev pub held : (T : Declared) → LL.Laws T → T.D → Vals
held T L x = of_list (flat (fields T) (valss (fields T) (LL.spells T.parts L) (T.to x)))

module _ {M : Type 1} {𝓤 : Ura M} {𝓛 : Logic 𝓤} {K : Type 0} {Γ : List (Item 𝓤)} where
  -- A local is an operand.
  open 𝓛 use {H}

  pub also : K → (n : ℕ) {E : Env 𝓤 H} {i : ℕ} {q : Share} {v : Val} {xs : List Operand} {vs : List Val}
      → nth 𝓛 n Γ ≡ ‵ (fat q (spot_of 𝓤 H E i).0 (spot_of 𝓤 H E i).1 zero v) → Opds K 𝓛 Γ E xs vs → Opds K 𝓛 Γ E (copy (place i []) ∷ xs) (v ∷ vs)
  also t n e rest = and_then t (load t (from t (stop t)) (look t n e)) rest

  -- A field of a local that is a struct T is an operand. What T says of the field is shown where the context is not known.
  pub field-of : K → (n k : ℕ) (T : Declared) (L : LL.Laws T) (x : T.D) {E : Env 𝓤 H} {i : ℕ} {τ : Ty} {d : ℕ} → field_of (layout (shape T)) k ≡ some (τ, d)
      → (spot_of 𝓤 H E i).0 ≡ layout (shape T) → nth 𝓛 n Γ ≡ ‵ (fat full_share (spot_of 𝓤 H E i).0 (spot_of 𝓤 H E i).1 zero (LL.val T L x))
      → Opd K 𝓛 Γ E (copy (place i (field k ∷ []))) (get_v (held T L x) k)
  field-of t n k T L x {E} {i} {τ} {d} has typed is =
      let b : ℕ = (spot_of 𝓤 H E i).1 in
      let back : Val → Item 𝓤 = λ u. ‵ (fat full_share (layout (shape T)) b zero (vstruct (set_v (held T L x) k u))) in
      let struct : nth 𝓛 n Γ ≡ ‵ (fat full_share (layout (shape T)) b zero (LL.val T L x)) = is ∙ ap (λ (σ : Ty). ‵ (fat full_share σ b zero (LL.val T L x))) typed in
      load t (from t (subst (λ (σ : Ty). Walks K 𝓛 Γ E (σ, b, zero) (field k ∷ []) (τ, b, zero + d)) (sym typed) (fld t {τ = τ} {d = d} has (stop t))))
      (look_in t n (subst (λ (j : Item 𝓤). Part K 𝓛 j full_share τ b (zero + d) (get_v (held T L x) k) back) (sym struct) (sub t k has (whole t))))

  -- A local is a reference to a slice: where it points, as an operand and as an address, and its length, as an operand.
  slice-part : K → (n k : ℕ) {ρ σ τ : Ty} {b d : ℕ} (p : ℕ × ℕ) (len : ℕ) → field_of (slice_ty ρ) k ≡ some (τ, d) → σ ≡ slice_ty ρ
      → nth 𝓛 n Γ ≡ ‵ (fat full_share σ b zero (slice_val p len)) → Reads K 𝓛 Γ τ b (zero + d) (get_v (vcons (vptr p.0 p.1) (vcons (vint w64 len) vnil)) k)
  slice-part t n k {ρ} {σ} {τ} {b} {d} p len has typed is =
      let vs : Vals = vcons (vptr p.0 p.1) (vcons (vint w64 len) vnil) in
      let back : Val → Item 𝓤 = λ u. ‵ (fat full_share (slice_ty ρ) b zero (vstruct (set_v vs k u))) in
      let slice : nth 𝓛 n Γ ≡ ‵ (fat full_share (slice_ty ρ) b zero (vstruct vs)) = is ∙ ap (λ (σ' : Ty). ‵ (fat full_share σ' b zero (vstruct vs))) typed in
      look_in t n (subst (λ (j : Item 𝓤). Part K 𝓛 j full_share τ b (zero + d) (get_v vs k) back) (sym slice) (sub t k has (whole t)))

  pub pointer_in : K → (n : ℕ) {ℓ : Lifetime} {μ : Mutability} {ρ : Ty} (p : ℕ × ℕ) (len : ℕ) {E : Env 𝓤 H} {i : ℕ} → (spot_of 𝓤 H E i).0 ≡ slice_ty (ty_ref ℓ μ ρ)
      → nth 𝓛 n Γ ≡ ‵ (fat full_share (spot_of 𝓤 H E i).0 (spot_of 𝓤 H E i).1 zero (slice_val p len)) → Opd K 𝓛 Γ E (copy (place i (field 0 ∷ []))) (vptr p.0 p.1)
  pointer_in t n {ℓ} {μ} {ρ} p len {E} {i} typed is =
      let b : ℕ = (spot_of 𝓤 H E i).1 in
      load t (from t (subst (λ (τ : Ty). Walks K 𝓛 Γ E (τ, b, zero) (field 0 ∷ []) (ty_ref ℓ μ ρ, b, 0)) (sym typed) (fld t {τ = ty_ref ℓ μ ρ} {d = 0} refl (stop t))))
      (slice-part t n 0 p len refl typed is)

  pub points-at : K → (n : ℕ) {ℓ : Lifetime} {μ : Mutability} {ρ σ : Ty} (p : ℕ × ℕ) (len : ℕ) {E : Env 𝓤 H} {i : ℕ} → (spot_of 𝓤 H E i).0 ≡ slice_ty (ty_ref ℓ μ ρ)
      → nth 𝓛 n Γ ≡ ‵ (fat full_share (spot_of 𝓤 H E i).0 (spot_of 𝓤 H E i).1 zero (slice_val p len))
      → Rv K 𝓛 Γ E (addr_of (place i (field 0 ∷ deref σ ∷ []))) (vptr p.0 p.1)
  points-at t n {ℓ} {μ} {ρ} {σ} p len {E} {i} typed is =
      addr t (from t (subst (λ (τ : Ty). Walks K 𝓛 Γ E (τ, (spot_of 𝓤 H E i).1, zero) (field 0 ∷ deref σ ∷ []) (σ, p.0, p.1)) (sym typed)
      (fld t {τ = ty_ref ℓ μ ρ} {d = 0} refl (hop t (slice-part t n 0 p len refl typed is) (stop t)))))

  pub length-in : K → (n : ℕ) {ℓ : Lifetime} {μ : Mutability} {ρ : Ty} (p : ℕ × ℕ) (len : ℕ) {E : Env 𝓤 H} {i : ℕ} → (spot_of 𝓤 H E i).0 ≡ slice_ty (ty_ref ℓ μ ρ)
      → nth 𝓛 n Γ ≡ ‵ (fat full_share (spot_of 𝓤 H E i).0 (spot_of 𝓤 H E i).1 zero (slice_val p len)) → Opd K 𝓛 Γ E (copy (place i (field 1 ∷ []))) (vint w64 len)
  length-in t n p len {E} {i} typed is =
      let b : ℕ = (spot_of 𝓤 H E i).1 in
      load t (from t (subst (λ (τ : Ty). Walks K 𝓛 Γ E (τ, b, zero) (field 1 ∷ []) (ty_int w64, b, 8)) (sym typed) (fld t {τ = ty_int w64} {d = 8} refl (stop t))))
      (slice-part t n 1 p len refl typed is)

  -- A local is freed, wherever it stands.
  pub gone : K → (n : ℕ) {τ : Ty} {b : ℕ} {v : Val} {E : Env 𝓤 H} {g : Goal 𝓤 H}
      → nth 𝓛 n Γ ≡ ‵ (fat full_share τ b zero v) → nth 𝓛 n (del 𝓛 n Γ) ≡ ‵ (fdies τ b)
      → Step K 𝓛 (del 𝓛 n (del 𝓛 n Γ)) (frees E g) Γ (frees ((τ, b) ∷ E) g)
  gone t n {τ} {b} {v} {E} {g} is dies =
      let Δ : List (Item 𝓤) = del 𝓛 n (del 𝓛 n Γ) in
      let none_left : Goal 𝓤 H = frees ((τ, b) ∷ E) g in
      let cleared : Seq K 𝓛 Δ (frees E g) → Seq K 𝓛 (‵ (fat full_share τ b zero v) ∷ ‵ (fdies τ b) ∷ Δ) none_left = λ s. forget t 0 refl $ free1 t $ s in
      step (λ s. by t (via 𝓤 _ (sel⊢ 𝓛 (n ∷ n ∷ []) Γ)
      (subst (λ (i : Item 𝓤). ent 𝓤 (⋆ 𝓛 (i ∷ nth 𝓛 n (del 𝓛 n Γ) ∷ Δ)) (aim 𝓤 H none_left)) (sym is)
      (subst (λ (i : Item 𝓤). ent 𝓤 (⋆ 𝓛 (‵ (fat full_share τ b zero v) ∷ i ∷ Δ)) (aim 𝓤 H none_left)) (sym dies)
      (cleared s).prf))))
