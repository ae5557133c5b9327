-- `hub` lends the hub behind the pointer, and the place follows it.
use Rattle.std.proofs.Common.{◌≡◌, ℕ, List, [], ◌∷◌, refl, sym, ap, ◌∙◌}
use Rattle.std.specs.Prelude.{Bool, true}
use Rattle.std.proofs.raw_atomic.Walks.{proved}
use Rattle.std.proofs.VecSteps.Shapes.{after}
use seplogic.Ra.Ura.{Ura}
use base.Fraction.{full_share}
use base.Logic.{SProp, ent, sep, id⊢}
use base.Fml.{Lft, GName, Share, Fml, ftrue, flft, fsep}
use mir.Syntax.{named}
use mir.Val.{Val, vptr}
use contract.Monad.{fact}
use contract.Running.{tables}
use prog.Memory.{Memory}
use prog.Routine.{Routine}
use prog.Wp.{Calls, Loops, WpFn}
use denote.Struct.Owning.{shape}
use denote.Struct.Struct.{Struct}
use denote.Triple.Entry.{on_entry}
use contract.Monad.{Fun}
use types.Logic.{Logic, sem}
use types.Kit.{‵, raw, ◌⊛◌, some, later, at_ret, ◌$◌, ◌∵◌, !, qed, by, done, move, keep, use1, split, join, pick, fsplit, fsplit3, fjoin, fpack, await, rewrite, suffices, frame, group}
use types.Part.{whole, sub, look_in}
use types.Run.{enter, of_opd, addr, load, stop, fld, first, blocks, exec, returns}
use types.ByLocal.{alloc_all, pass_all, free_all, look_at, get, through, sets, sets_last, env}
use denote.Exit.{no}
use denote.Follow.{follows, Part, lends_Part}
use denote.Laws.{shows}
use denote.Memory.{cell_at, part_at, part_of, mem}
use denote.RawPtr.{Ptr, block_ptr, lies_at, in_a_block}
use denote.Ref.{MutBor, MutRef, mut_vals, mut_Tells}
use denote.Signature.{plain, mut_ref_to}
use denote.Steps.{nothing, opens, peeks, heard}
use denote.Triple.Walked.{Stays, walk_of, says, stay_dropped, Goes-spent_ref, ends_at}
use Rattle.hub_c.specs.Places.{ProductHub, owned, hub_row}
use Rattle.hub_c.specs.declared.place.Place.{Place}
use Rattle.hub_c.specs.contracts.place.Place.{the_row as R, the_type}
use Rattle.hub_c.specs.contracts.place.Place.hub as f
use Rattle.hub_c.proofs.place.Place.TheLaws.{lowers}
use Rattle.hub_c.proofs.place.Place.hub.Statement.{statement}
use Rattle.hub_c.proofs.place.Place.hub.Code as code

abbrev stayed : Stays f.ended.signature.params f.ended.kept
stayed = (stay_dropped (mut_ref_to (0 ∷ []) tt (plain (λ _. R))) no, tt)

-- the place with this hub behind its pointer
abbrev with_hub : Place → ProductHub → Place
with_hub h w = record h { hub = w }

-- the machine value of a place
abbrev word : Place → ℕ → ℕ → List Val
word h b o = lowers.lowered (record h { at = block_ptr b o }) ∷ []

module _ {M : Type 1} {𝓤 : Ura M} (𝓛 : Logic 𝓤) (at_mem : Memory → SProp 𝓤) (run : Routine → Fun 𝓤) (κ : Lft) (q : Share) (self : MutBor Place) (b o : ℕ) where
  open 𝓛 use {A}

  abbrev rb : ℕ
  rb = self.ref_ptr.0

  abbrev ro : ℕ
  ro = self.ref_ptr.1

  abbrev γ : GName
  γ = self.ghost_name

  abbrev x : ProductHub
  x = self.now.hub

  abbrev h : Place
  h = self.now

  abbrev bound : (walk_of 𝓛 f.ended stayed (f.clauses 𝓛 at_mem run)).Ghost
  bound = (((κ, tt), (q, tt), tt, (self, tt), (mut_vals self, tt)), tt)

  abbrev Post : Val → SProp 𝓤
  Post = (walk_of 𝓛 f.ended stayed (f.clauses 𝓛 at_mem run)).post bound

  -- what the fields of the place own
  abbrev Fields : List Val → Fml
  Fields us = (Struct (shape the_type)).own_val (h.at, tt) us

  module _ (e : h.at ≡ block_ptr b o) (made : h.made ≡ true) where
    -- all of the place but the hub behind its pointer
    abbrev Rest : Fml
    Rest = fsep (Fields (word h b o)) (cell_at full_share R.mir (word h b o) rb ro)

    back : (w : ProductHub) → ent 𝓤 (sep 𝓤 (sem 𝓛 ((mem hub_row).own_at w b o)) (sem 𝓛 Rest)) (sem 𝓛 ((mem R).own_at (with_hub h w) rb ro))
    unfolding part_of
    back w =
        qed 𝓛 (‵ (part_at hub_row full_share w b o) ∷ ‵ Rest ∷ []) ∵ rewrite ! 0 (λ (p : Ptr). ‵ (lies_at hub_row full_share p w)) (sym e) refl $ rewrite ! 0 (λ (s : Bool). ‵ (owned h.at h.room s w)) (sym made) refl $
        move ! (1 ∷ []) $ fsplit ! $ move ! (2 ∷ 0 ∷ []) $ move ! (1 ∷ 0 ∷ []) $ fjoin ! $ move ! (1 ∷ []) $ fjoin ! $
        fpack ! (List Val) (λ us. fsep (cell_at full_share R.mir us rb ro) (R.own_val (with_hub h w) us)) (word h b o) $ done !

    exits : (γ' : GName) → ent 𝓤 (Part 𝓛 R hub_row (with_hub h) (named 0) κ q rb ro b o γ (sem 𝓛 Rest) back x γ') (Post (vptr b o))
    exits γ' =
        qed 𝓛 (‵ ((MutRef (named 0) κ hub_row).own_val (record { ref_ptr = (b, o); ghost_name = γ'; now = x }) (vptr b o ∷ [])) ∷ ‵ (flft κ q) ∷ ‵ (follows R hub_row γ γ' (with_hub h)) ∷ []) ∵
        suffices ! _ (ends_at 𝓛 f.ended stayed (f.clauses 𝓛 at_mem run) bound (vptr b o) (record { ref_ptr = (b, o); ghost_name = γ'; now = x }) (tt, tt) (tt, tt)) $
        nothing ! $ nothing ! $ fjoin ! $ join ! $ nothing ! $ move ! (2 ∷ 0 ∷ []) $ join ! $ join ! $ frame ! $ says ! refl $ done !

module _ {M : Type 1} {𝓤 : Ura M} (𝓛 : Logic 𝓤) (at_mem : Memory → SProp 𝓤) (run : Routine → Fun 𝓤) (C : Calls 𝓤 𝓛.H) (Λ : Loops 𝓤 𝓛.H) (κ : Lft) (q : Share) (self : MutBor Place) where
  abbrev Left : Val → SProp 𝓤
  Left = (walk_of 𝓛 f.ended stayed (f.clauses 𝓛 at_mem run)).post (((κ, tt), (q, tt), tt, (self, tt), (mut_vals self, tt)), tt)

  abbrev lent : ProductHub
  lent = self.now.hub

  walk : ent 𝓤 (sep 𝓤 (on_entry 𝓛 f.signature (κ, tt) (q, tt) (self, tt) (mut_vals self, tt)) (fact 𝓤 (self.now.made ≡ true))) (WpFn 𝓤 𝓛.H C Λ code.function (mut_vals self) Left)
  walk =
      qed 𝓛 (((‵ (flft κ q) ⊛ ‵ ftrue) ⊛ ‵ ((MutRef (named 0) κ R).own_val self (mut_vals self)) ⊛ ‵ ftrue) ∷ raw (fact 𝓤 (self.now.made ≡ true)) ∷ []) ∵
      split ! $ split ! $ move ! (2 ∷ []) $ split ! $ keep ! (4 ∷ 0 ∷ 2 ∷ []) $ heard ! _ (λ made.
      enter ! C Λ code.function (mut_vals self) _ $ alloc_all ! (λ l. pass_all ! refl ((tt, tt), tt) $
      fsplit3 ! $ move ! (1 ∷ 2 ∷ 3 ∷ []) $ opens ! tt R self.ref_ptr.0 self.ref_ptr.1 (λ us.
      move ! (1 ∷ []) $ peeks ! R _ (shows 𝓛 R) self.now us (λ is. fsplit ! $ move ! (1 ∷ []) $
      rewrite ! 0 (λ (s : Bool). ‵ (owned self.now.at self.now.room s lent)) made refl $
      in_a_block ! self.now.at (λ p. lies_at hub_row full_share p lent) (id⊢ 𝓤 _) (λ b o e.
      let at_b : us ≡ word self.now b o = lowers.val_is self.now us is ∙ ap (λ (p : Ptr). lowers.lowered (record self.now { at = p }) ∷ []) e in
      rewrite ! 1 (λ (ws : List Val). ‵ (Fields 𝓛 at_mem run κ q self b o ws)) at_b refl $
      rewrite ! 2 (λ (ws : List Val). ‵ (cell_at full_share R.mir ws self.ref_ptr.0 self.ref_ptr.1)) at_b refl $
      first ! $ blocks ! $
      sets ! (of_opd ! (load ! (through ! refl (fld ! refl (stop !))) (look_in ! 2 (sub ! 0 refl (whole !))))) refl (tt, tt) $
      sets ! (of_opd ! (get ! refl)) refl (tt, tt) $
      sets_last ! (addr ! (through ! refl (stop !))) refl (tt, tt) $
      exec ! C Λ (env code.function.locals l) (after 1 code.function.body) (at_ret (env code.function.locals l) Left) $
      sets ! (of_opd ! (get ! refl)) refl (tt, tt) $
      move ! (1 ∷ 2 ∷ []) $ fjoin ! $ move ! (2 ∷ 3 ∷ 4 ∷ 1 ∷ 0 ∷ []) $ group ! 5 $
      use1 𝓛 (later (some (λ (γ' : GName). raw (Part 𝓛 R hub_row (with_hub self.now) (named 0) κ q self.ref_ptr.0 self.ref_ptr.1 b o self.ghost_name (sem 𝓛 (Rest 𝓛 at_mem run κ q self b o e made)) (back 𝓛 at_mem run κ q self b o e made) lent γ'))))
      (lends_Part 𝓛 R hub_row (with_hub self.now) (named 0) κ q self.ref_ptr.0 self.ref_ptr.1 b o self.ghost_name (sem 𝓛 (Rest 𝓛 at_mem run κ q self b o e made)) (back 𝓛 at_mem run κ q self b o e made) (R.coded.code self.now) (R.coded.code self.now) lent) $ await ! tt $ pick ! (λ γ'.
      returns ! (look_at ! 0 refl) $ free_all ! refl $
      keep ! (0 ∷ []) $ by ! (exits 𝓛 at_mem run κ q self b o e made γ')))))))

pub hub_spec : {M : Type 1} → statement M
hub_spec 𝓤 𝓛 𝓜 𝓡 wired =
    let 𝓣 = tables 𝓤 𝓛.H 𝓜 𝓡 𝓡.env in
    proved 𝓛 f.ended stayed (f.clauses 𝓛 𝓜.mem 𝓡.returns) 𝓜 𝓡 (Goes-spent_ref 𝓛 1 (0 ∷ []) tt (plain (λ _. R)), tt)
    f.Key.name code.function (code.unfolded 𝓤 𝓛.H 𝓜 𝓡 wired)
    (λ κs. (mut_vals, tt)) (λ κs. (mut_Tells (named 0) κs.0 R, tt)) (λ κs qs bounds a x are.
    walk 𝓛 𝓜.mem 𝓡.returns 𝓣.C 𝓣.Λ κs.0 qs.0 a.0)
