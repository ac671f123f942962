pub mod ReferredLaws
