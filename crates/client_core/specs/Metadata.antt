-- The metadata of tasks.
use Rattle.std.specs.Prelude.{ℕ, true, false, List, []}
use Rattle.cluster_types.specs.declared.event.Dep.{Dep}
use Rattle.cluster_defs.specs.declared.content.SubmitMeta.{SubmitMeta}

-- a dependency on tasks all of which have to have completed, as it is meant where no flags are written
abbrev pub dependency_on : List (List ℕ) → Dep
dependency_on ids = record { ids = ids; all = true; success = true; failure = false }

-- a task that runs behind some and on the engine of others, and is tried again so often
abbrev pub dependent_meta : List (List ℕ) → List (List ℕ) → ℕ → SubmitMeta
dependent_meta after follow retries =
    record { after = dependency_on after; follow = dependency_on follow; targets = []; timeout = 0; retries = retries }

-- a task that asks for nothing
abbrev pub plain_meta : SubmitMeta
plain_meta = dependent_meta [] [] 0
