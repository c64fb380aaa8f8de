pub mod BandedImages
pub mod FramedImages
