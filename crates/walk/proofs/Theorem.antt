-- A walk's last step: from the code over any tables, where the one function that it calls keeps its contract, to the function itself.
--     stands      what the code meets over any such tables, the function meets as it is called
-- Assumes nothing.
use mathlib.Core.Path.{◌≡◌}
use seplogic.Ra.Ura.{Ura}
use mir.Syntax.{Fn}
use prog.Wp.{Heap, Tables, WpFn, Closed}
use prog.Model.{Model}
use prog.Routine.{Callee, Routine, Env}
use contract.Running.{Running, tables, tables_of}
use denote.Triple.Statement.{Contract, Triple}
use denote.Triple.Table.{entered, cited}

module _ {M : Type 1} (𝓤 : Ura M) (H : Heap 𝓤) (𝓜 : Model 𝓤 H) (𝓡 : Running 𝓤 H 𝓜) (γ : Env) (self callee : Callee) (f : Fn) (r : Routine)
    (c d : Contract 𝓤) where
  pub stands : Closed 𝓤 H (tables 𝓤 H 𝓜 𝓡 γ).C (tables 𝓤 H 𝓜 𝓡 γ).Λ self f → γ callee ≡ r → Triple 𝓤 (𝓡.run r) d
      → ((𝓣 : Tables 𝓤 H) → Triple 𝓤 (𝓣.C callee) d → Triple 𝓤 (WpFn 𝓤 H 𝓣.C 𝓣.Λ f) c) → Triple 𝓤 (𝓡.run (γ self)) c
  unfolding tables_of
  stands closed means met over =
      entered 𝓤 H c (tables 𝓤 H 𝓜 𝓡 γ).C (tables 𝓤 H 𝓜 𝓡 γ).Λ self f closed
      (over (tables_of 𝓤 H 𝓜 (tables 𝓤 H 𝓜 𝓡 γ)) (cited 𝓤 H d 𝓜 𝓡 γ callee r means met))
