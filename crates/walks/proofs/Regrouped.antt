-- What is owned of some parameters, and what is said of them at the end, taken apart and put together as others. The rules assume `Logic`.
use Prim.Native.Nat.{ℕ}
use mathlib.Core.List.{List, [], ◌∷◌, ◌++◌}
use seplogic.Ra.Ura.{Ura}
use base.Fml.{Fml, ftrue, fsep}
use types.Logic.{Logic}
use contract.Lifetimes.{Lfts}
use types.Kit.{Goal, Item, ‵, Seq, ◌$◌, drop, fsplit, fjoin}
use denote.Exit.{left}
use denote.RattleType.{RattleType, Denots, Valss}
use denote.Signature.{Slot, types_at}
use denote.Steps.{nothing}
use denote.Triple.End.{Kepts, Fins}
use Rattle.walks.proofs.Locals.{swaps}

-- formulas, one after the other
abbrev pub seps : List Fml → Fml
seps [] = ftrue
seps (P ∷ Ps) = fsep P (seps Ps)

-- what each parameter owns
abbrev pub owned_by : (Rs : List RattleType) → Denots Rs → Valss Rs → List Fml
owned_by [] a vs = []
owned_by (R ∷ Rs) a vs = R.own_val a.0 vs.0 ∷ owned_by Rs a.1 vs.1

-- what is said of each at the end
abbrev pub left-of : {n : ℕ} (κs : Lfts n) (ss : List (Slot n)) (ks : Kepts ss) (a : Denots (types_at ss κs)) → Fins κs ss ks a → List Fml
left-of κs [] ks a ws = []
left-of κs (s ∷ ss) ks a ws = left ((s.row κs).exit ks.0) a.0 ws.0 ∷ left-of κs ss ks.1 a.1 ws.1

module _ {M : Type 1} (𝓤 : Ura M) where
  abbrev pub items : List Fml → List (Item 𝓤)
  items [] = []
  items (P ∷ Ps) = ‵ P ∷ items Ps

module _ {M : Type 1} {𝓤 : Ura M} {𝓛 : Logic 𝓤} {K : Type 0} {G : Goal 𝓤 𝓛.H} where
  pub splits : K → (Ps : List Fml) (Γ : List (Item 𝓤)) → Seq K 𝓛 (items 𝓤 Ps ++ Γ) G → Seq K 𝓛 (‵ (seps Ps) ∷ Γ) G
  splits t [] Γ s = drop t $ s
  splits t (P ∷ Ps) Γ s = fsplit t $ swaps (‵ P ∷ []) (‵ (seps Ps) ∷ []) Γ (splits t Ps (‵ P ∷ Γ) (swaps (items 𝓤 Ps) (‵ P ∷ []) Γ s))

  pub joins : K → (Ps : List Fml) (Γ : List (Item 𝓤)) → Seq K 𝓛 (‵ (seps Ps) ∷ Γ) G → Seq K 𝓛 (items 𝓤 Ps ++ Γ) G
  joins t [] Γ s = nothing t $ s
  joins t (P ∷ Ps) Γ s = swaps (‵ P ∷ []) (items 𝓤 Ps) Γ (joins t Ps (‵ P ∷ Γ) (swaps (‵ (seps Ps) ∷ []) (‵ P ∷ []) Γ (fjoin t $ s)))
