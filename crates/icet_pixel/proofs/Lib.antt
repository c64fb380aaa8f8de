pub mod BlendedFits
